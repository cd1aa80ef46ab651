-- Rows that repeat others.
use Rattle.std.proofs.Common.{◌≡◌, ℕ, Bool, true, false, List, [], ◌∷◌, ◌++◌, None}
use Rattle.std.proofs.Common.{get_or, refl, ap, sym, ◌∙◌, subst}
use Rattle.std.specs.Prelude.{find}
use Rattle.std.specs.BTreeSet.{contains_text}
use Rattle.std.specs.Option.{option_map}
use Rattle.std.proofs.lemmas.Bool.{both_ways}
use Rattle.std.proofs.lemmas.List.Elements.{All-push}
use Rattle.std.proofs.lemmas.List.Folds.{list_any_none}
use Rattle.mq_acl.specs.Views.{row_view}
use Rattle.mq_acl.specs.declared.row.Row.{Row}
use Rattle.mq_differences.proofs.FirstLemmas.{find_none}
use Rattle.mq_lint.specs.Needless.{same_row}
use Rattle.mq_lint.specs.Repeats.{AreSeen, row_key}
use Rattle.mq_lint.specs.declared.repeats.Seen.{Seen}
use Rattle.mq_lint.proofs.SameLemmas.{row_is}

-- where none with its key was seen, none says the same
pub none_same : (before : List Row) (row : Row) (old : Seen) (key : List ℕ)
    → key ≡ row_key (row_view row) → contains_text old.keys key ≡ false → AreSeen before old
    → None ≡ option_map (λ (r : Row). r.line)
    (find (λ r. same_row (row_view r) (row_view row)) before)
none_same before row old key is new seen =
    ap (option_map (λ (r : Row). r.line)) (sym (find_none (λ r. same_row (row_view r) (row_view row))
    before (list_any_none (λ r. same_row (row_view r) (row_view row)) before
    (λ k r low. at (get_or before k r) (seen k r low)
    (same_row (row_view (get_or before k r)) (row_view row)) refl))))
  where
    at : (r : Row) → contains_text old.keys (row_key (row_view r)) ≡ true → (b : Bool)
        → same_row (row_view r) (row_view row) ≡ b → b ≡ false
    at r there true e = absurd (both_ways (contains_text old.keys key) new
        (ap (contains_text old.keys) (is ∙ sym (ap row_key (row_is (row_view r) (row_view row) e)))
        ∙ there))
    at r there false e = refl

-- one more is seen
pub seen_more : (before : List Row) (row : Row) (old new : Seen) (key : List ℕ)
    → key ≡ row_key (row_view row) → contains_text new.keys key ≡ true
    → ((text : List ℕ) → contains_text old.keys text ≡ true → contains_text new.keys text ≡ true)
    → AreSeen before old → AreSeen (before ++ row ∷ []) new
seen_more before row old new key is there kept seen =
    All-push (λ r. contains_text new.keys (row_key (row_view r)) ≡ true) before row
    (λ k r low. kept (row_key (row_view (get_or before k r))) (seen k r low))
    (subst (λ text. contains_text new.keys text ≡ true) is there)
