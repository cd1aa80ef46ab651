-- Names that some filters match, besides what rows concern.
use Rattle.std.proofs.Common.{◌≡◌, ◌∙◌, ◌&&◌, ◌||◌, ◌++◌, ◌∷◌, ℕ, Bool, true, false, not, List, [], Option}
use Rattle.std.proofs.Common.{ap, bytes_eq, codes, refl, sym}
use Rattle.std.specs.List.{list_all, list_any}
use Rattle.std.specs.Option.{unwrap_or}
use Rattle.std.proofs.lemmas.Bool.{and_parts, not-true}
use Rattle.std.proofs.lemmas.List.Folds.{list_all-append}
use Rattle.mq_topic.specs.Levels.{levels}
use Rattle.mq_topic.specs.Matching.{level_matches, levels_match_by}
use Rattle.mq_acl.specs.Rows.{AclRow}
use Rattle.mq_acl.specs.RowsByOwner.{is_everyones}
use Rattle.mq_unify.specs.Clients.{made_levels}
use Rattle.mq_unify.specs.Rows.{row_matches}
use Rattle.mq_shapes.specs.Every.{has_user_mark}
use Rattle.mq_shapes.specs.Found.{row_hits}
use Rattle.mq_shapes.specs.Ruled.{are_literal, matched_by}
use Rattle.mq_shapes.proofs.FilledLemmas.{single_levels}

pub all_parts : {X : Type 0} (p : X → Bool) (xs ys : List X) → list_all p (xs ++ ys) ≡ true
    → (list_all p xs ≡ true) × (list_all p ys ≡ true)
all_parts p xs ys h = and_parts (list_all p xs) (list_all p ys) (sym (list_all-append p xs ys) ∙ h)

-- ---- rows that are asked as they are written
module _ (client : List ℕ) (user : Option (List ℕ)) (ls : List (List ℕ)) where
  as_written : (row : AclRow) → is_everyones row.who ≡ false
      → row_matches client user ls row ≡ levels_match_by level_matches (levels row.filter) ls
  as_written row e =
      ap (λ p. levels_match_by level_matches
      (made_levels p client (unwrap_or user []) (levels row.filter)) ls) e
      ∙ ap (λ fs. levels_match_by level_matches fs ls) (sym (single_levels (levels row.filter)))

  all_written : (rows : List AclRow) → are_literal rows ≡ true
      → list_all (row_matches client user ls) rows ≡ matched_by rows ls
  all_written [] h = refl
  all_written (row ∷ rows) h =
      let parts = and_parts (not (is_everyones row.who)) (are_literal rows) h in
      (λ i. as_written row (not-true (is_everyones row.who) parts.0) i
      && all_written rows parts.1 i)

  -- rows are hit within these filters
  pub hits_within : (within must cover : List AclRow) → are_literal within ≡ true
      → row_hits client user ls (within ++ must) cover
      ≡ (matched_by within ls && row_hits client user ls must cover)
  hits_within within must cover h =
      ap (λ b. b && not (list_any (row_matches client user ls) cover))
      (list_all-append (row_matches client user ls) within must
      ∙ ap (λ b. b && list_all (row_matches client user ls) must) (all_written within h))
      ∙ three (matched_by within ls) (list_all (row_matches client user ls) must)
      (not (list_any (row_matches client user ls) cover))
    where
      three : (a b c : Bool) → ((a && b) && c) ≡ (a && (b && c))
      three true b c = refl
      three false b c = refl

-- no mark stands in them
pub literal_unmarked : (rows : List AclRow) → are_literal rows ≡ true
    → list_any has_user_mark rows ≡ false
literal_unmarked [] h = refl
literal_unmarked (row ∷ rows) h =
    let parts = and_parts (not (is_everyones row.who)) (are_literal rows) h in
    (λ i. unmarked row (not-true (is_everyones row.who) parts.0) i
    || literal_unmarked rows parts.1 i)
  where
    unmarked : (row : AclRow) → is_everyones row.who ≡ false → has_user_mark row ≡ false
    unmarked row e = by (is_everyones row.who) e
      where
        by : (b : Bool) → b ≡ false → (b && list_any (λ l. bytes_eq l (codes "%u")) (levels row.filter)) ≡ false
        by true e = absurd (let n : true ≡ false = e in cc)
        by false e = refl
