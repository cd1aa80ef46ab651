-- What rows cover by mosquitto's rules.
use Rattle.std.proofs.Common.{◌≡◌, ◌∙◌, ◌&&◌, ◌||◌, ℕ, Bool, true, false, not, List, []}
use Rattle.std.proofs.Common.{Option, ap, refl}
use Rattle.std.proofs.Common.{if◌then◌else◌}
use Rattle.std.specs.Option.{unwrap_or}
use Rattle.std.proofs.Math.Bool.{and-false}
use Rattle.mq_topic.specs.Levels.{levels}
use Rattle.mq_topic.specs.Matching.{is_hidden, matches}
use Rattle.mq_topic.proofs.Walk.{hidden, shown}
use Rattle.mq_acl.specs.Filled.{filled}
use Rattle.mq_acl.specs.Mosquitto.{filter_for, is_asked, row_covers}
use Rattle.mq_acl.specs.Rows.{AclRow}
use Rattle.mq_acl.specs.RowsByOwner.{is_everyones}
use Rattle.mq_unify.specs.Rows.{row_matches}
use Rattle.mq_shapes.specs.Filled.{row_levels}
use Rattle.mq_shapes.proofs.FilledLemmas.{pattern_levels, plain_levels}

-- the row isn't passed over for this client
abbrev pub is_row_asked : List ℕ → Option (List ℕ) → AclRow → Bool
is_row_asked client user row = not (is_everyones row.who) || is_asked client user row.filter

module _ (client : List ℕ) (user : Option (List ℕ)) where
  abbrev text : List ℕ
  text = unwrap_or user []

  pub filter_levels : (row : AclRow)
      → levels (filter_for client user row) ≡ row_levels client text row
  filter_levels row = by (is_everyones row.who) refl
    where
      by : (b : Bool) → is_everyones row.who ≡ b
          → levels (filter_for client user row) ≡ row_levels client text row
      by true e = ap (λ b. levels (if b then filled client text row.filter else row.filter)) e
          ∙ pattern_levels client text row e
      by false e = ap (λ b. levels (if b then filled client text row.filter else row.filter)) e
          ∙ plain_levels client text row e

  -- a name that the rule on `$` doesn't hide
  pub covers_is : (row : AclRow) (name : List ℕ) → is_row_asked client user row ≡ true
      → is_hidden (row_levels client text row) (levels name) ≡ false
      → row_covers client user name row ≡ row_matches client user (levels name) row
  covers_is row name asked h =
      (λ i. asked i && matches (filter_levels row i) (levels name))
      ∙ shown (row_levels client text row) name h

  -- one that it hides
  pub hidden_is : (row : AclRow) (name : List ℕ)
      → is_hidden (row_levels client text row) (levels name) ≡ true
      → row_covers client user name row ≡ false
  hidden_is row name h =
      (λ i. is_row_asked client user row && matches (filter_levels row i) (levels name))
      ∙ (λ i. is_row_asked client user row
      && hidden (row_levels client text row) (levels name) h i)
      ∙ and-false (is_row_asked client user row)
