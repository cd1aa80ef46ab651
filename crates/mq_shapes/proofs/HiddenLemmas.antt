-- Rows that cover no name that begins with `$`.
use Rattle.std.proofs.Common.{◌≡◌, ◌∙◌, ◌&&◌, ◌||◌, ◌++◌, ◌∷◌, ◌<◌, ℕ, Bool, true, false, not, List, []}
use Rattle.std.proofs.Common.{Option, ap, arith, bytes_eq, codes, length, refl, sym}
use Rattle.std.specs.List.{list_all, onto_first}
use Rattle.std.specs.Option.{unwrap_or}
use Rattle.std.specs.Prelude.{◌==◌, if◌then◌else◌, slice_index}
use Rattle.std.proofs.lemmas.Bool.{and_parts, not-true}
use Rattle.std.proofs.lemmas.Bool.Decides.{nat_tests}
use Rattle.mq_topic.proofs.ByteLemmas.{text_is}
use Rattle.mq_topic.proofs.Walk.{levels-nonempty}
use Rattle.mq_topic.specs.Levels.{is_slash, levels}
use Rattle.mq_topic.specs.Matching.{is_hidden, is_wildcard, level_at}
use Rattle.mq_topic.specs.Texts.{contains_byte, is_plain}
use Rattle.mq_acl.proofs.FilledLemmas.{plain_levels}
use Rattle.mq_acl.specs.Access.{begins_with_dollar}
use Rattle.mq_acl.specs.Mosquitto.{row_covers}
use Rattle.mq_acl.specs.Lines.{is_pattern_level}
use Rattle.mq_acl.specs.Rows.{AclRow}
use Rattle.mq_acl.specs.RowsByOwner.{is_everyones}
use Rattle.mq_unify.specs.Clients.{are_plain, made, made_levels}
use Rattle.mq_unify.proofs.FilterLemmas.{all_lack, single}
use Rattle.mq_unify.proofs.FilterLemmas.{levels_lack as no_slashes}
use Rattle.mq_unify.proofs.MadeLemmas.{client_made, none_in, unmarked, user_made}
use Rattle.mq_shapes.specs.Filled.{row_levels}
use Rattle.mq_shapes.specs.Found.{has_whole_marks}
use Rattle.mq_shapes.specs.Ruled.{hides}
use Rattle.mq_shapes.proofs.FilledLemmas.{single_levels}
use Rattle.mq_shapes.proofs.RuledLemmas.{covers_is, hidden_is, is_row_asked}
use Rattle.mq_unify.specs.Rows.{row_matches}

abbrev pub front : List (List ℕ) → Bool
front ls = is_wildcard (level_at ls 0)

-- texts without wildcards begin with none
first_plain : (ls : List (List ℕ)) → are_plain ls ≡ true → front ls ≡ false
first_plain [] h = refl
first_plain (l ∷ ls) h =
    not-true (is_wildcard l) (and_parts (not (is_wildcard l)) (are_plain ls) h).0

front_more : (xs ys : List (List ℕ)) → 0 < length xs → front (xs ++ ys) ≡ front xs
front_more [] ys h = absurd (omega arith)
front_more (x ∷ xs) ys h = refl

text_plain : (text : List ℕ) (rest : List (List ℕ)) → is_plain text ≡ true
    → front (levels text ++ rest) ≡ false
text_plain text rest h = front_more (levels text) rest (levels-nonempty text)
    ∙ first_plain (levels text) (plain_levels text h)

no_dollar : (x : ℕ) → is_slash x ≡ true → (x == 36) ≡ false
no_dollar x e = grind (arith, nat_tests)

-- a name begins with `$` just where its first level does
pub first_begins : (name : List ℕ) → (slice_index (level_at (levels name) 0) 0 == 36)
    ≡ begins_with_dollar name
first_begins [] = refl
first_begins (x ∷ xs) = by (is_slash x) refl (levels xs)
  where
    by : (b : Bool) → is_slash x ≡ b → (ls : List (List ℕ))
        → (slice_index (level_at (if b then ([] ∷ ls) else onto_first x ls) 0) 0 == 36)
        ≡ (x == 36)
    by true e ls = sym (no_dollar x e)
    by false e [] = refl
    by false e (l ∷ ls) = refl

module _ (client user : List ℕ) (client_plain : is_plain client ≡ true)
    (user_plain : is_plain user ≡ true) where
  front_made : (ls : List (List ℕ)) → all_lack ls ≡ true → list_all is_pattern_level ls ≡ true
      → front (made_levels true client user ls) ≡ front ls
  front_made [] s w = refl
  front_made (l ∷ ls) s w =
      by (and_parts (not (contains_byte 47 l)) (all_lack ls) s).0
      (and_parts (is_pattern_level l) (list_all is_pattern_level ls) w).0
      (bytes_eq l (codes "%c")) refl (bytes_eq l (codes "%u")) refl
    where
      rest : List (List ℕ)
      rest = made_levels true client user ls

      by : not (contains_byte 47 l) ≡ true → is_pattern_level l ≡ true
          → (c : Bool) → bytes_eq l (codes "%c") ≡ c → (u : Bool) → bytes_eq l (codes "%u") ≡ u
          → front (made true client user l ++ rest) ≡ front (l ∷ ls)
      by slash is true c u e =
          ap (λ m. front (m ++ rest)) (client_made client user l c)
          ∙ text_plain client rest client_plain ∙ sym (ap is_wildcard (text_is l (codes "%c") c))
      by slash is false c true e =
          ap (λ m. front (m ++ rest)) (user_made client user l e)
          ∙ text_plain user rest user_plain ∙ sym (ap is_wildcard (text_is l (codes "%u") e))
      by slash is false c false e =
          let none = none_in l is c e in
          ap (λ m. front (m ++ rest)) (ap levels (unmarked client user l none.0 none.1)
          ∙ single l slash)

  -- the filter for such a client begins with a wildcard just where it does as it is written
  pub front_is : (row : AclRow) → has_whole_marks row ≡ true
      → front (row_levels client user row) ≡ hides row
  front_is row w = by (is_everyones row.who) w
    where
      by : (pattern : Bool)
          → (not pattern || list_all is_pattern_level (levels row.filter)) ≡ true
          → front (made_levels pattern client user (levels row.filter)) ≡ hides row
      by true w = front_made (levels row.filter) (no_slashes row.filter) w
      by false w = ap front (sym (single_levels (levels row.filter)))

-- what is covered of a name by a row that isn't passed over
pub covered : (client : List ℕ) (user : Option (List ℕ)) → is_plain client ≡ true
    → is_plain (unwrap_or user []) ≡ true → (row : AclRow) (name : List ℕ) (dollar : Bool)
    → has_whole_marks row ≡ true → is_row_asked client user row ≡ true
    → begins_with_dollar name ≡ dollar
    → row_covers client user name row
    ≡ (not (dollar && hides row) && row_matches client user (levels name) row)
covered client user c u row name dollar w asked d =
    by (is_hidden (row_levels client text row) (levels name)) refl
  where
    text : List ℕ
    text = unwrap_or user []

    same : is_hidden (row_levels client text row) (levels name) ≡ (dollar && hides row)
    same = (λ i. (first_begins name ∙ d) i && front_is client text c u row w i)

    by : (h : Bool) → is_hidden (row_levels client text row) (levels name) ≡ h
        → row_covers client user name row
        ≡ (not (dollar && hides row) && row_matches client user (levels name) row)
    by true h = hidden_is client user row name h
        ∙ (λ i. sym (ap not (sym same ∙ h)) i && row_matches client user (levels name) row)
    by false h = covers_is client user row name asked h
        ∙ (λ i. sym (ap not (sym same ∙ h)) i && row_matches client user (levels name) row)
