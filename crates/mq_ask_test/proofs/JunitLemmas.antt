-- The text of a suite, piece by piece.
use Rattle.std.proofs.Common.{◌≡◌, ◌++◌, ◌∙◌, ◌+◌, ◌<◌, ℕ, List, [], ◌∷◌, ap, arith}
use Rattle.std.proofs.Common.{append_assoc, append-nil, get_or, length, refl, subst, sym, take}
use Rattle.std.proofs.Common.{Result, Ok, Err, OnOk, if◌then◌else◌}
use Rattle.std.specs.Result.{is_ok}
use Rattle.std.proofs.lemmas.Grind.{common_steps}
use Rattle.mq_ask_test.specs.Junit.{AreCases, case_text}
use Rattle.mq_ask_test.specs.declared.verdicts.Verdict.{Verdict}
use Rattle.mq_print.specs.Lists.{ListView}

-- with the last piece it is so, on success
pub on_pushed : {A E Q : Type 0} (r : Result A E) (old new piece : List ℕ)
    → new ≡ (if is_ok r then old ++ piece else old) → (new ≡ old ++ piece → Q) → OnOk r Q
on_pushed (Ok x) old new piece is so = so is
on_pushed (Err e) old new piece is so = tt

-- three pieces, of which the last is there on success
pub three_pieces : {A E : Type 0} (r : Result A E) (before one two after a b c : List ℕ)
    → one ≡ before ++ a → two ≡ one ++ b → OnOk r (after ≡ two ++ c)
    → OnOk r (after ≡ before ++ (a ++ (b ++ c)))
three_pieces (Ok x) before one two after a b c p q is = rw (is, q, p) (simp append_assoc)
three_pieces (Err e) before one two after a b c p q is = tt

-- one more case behind them
one_behind : (expectations : ListView) (all : List Verdict) (v : Verdict)
    (before after why : List ℕ) → AreCases expectations all before
    → after ≡ before ++ case_text expectations v why
    → AreCases expectations (all ++ (v ∷ [])) after
one_behind expectations [] v before after why are is = (
  why,
  [],
  is ∙ ap (λ b. b ++ case_text expectations v why) are ∙ sym (append-nil _),
  refl,
)
one_behind expectations (w ∷ ws) v before after why are is =
    let text = case_text expectations v why in (
      are.0,
      are.1 ++ text,
      is ∙ ap (λ b. b ++ text) are.2 ∙ append_assoc (case_text expectations w are.0) are.1 text,
      one_behind expectations ws v are.1 (are.1 ++ text) why are.3 refl,
    )

-- one more of those that are taken
pub one_more : (expectations : ListView) (all : List Verdict) (i : ℕ) (v : Verdict)
    (cases why : List ℕ) → i < length all → v ≡ get_or all i v
    → AreCases expectations (take i all) cases
    → AreCases expectations (take (i + 1) all) (cases ++ case_text expectations v why)
one_more expectations all i v cases why inside is_at are =
    let taken : take i all ++ (v ∷ []) ≡ take (i + 1) all = grind (arith, common_steps) in
    subst (λ (vs : List Verdict). AreCases expectations vs (cases ++ case_text expectations v why))
    taken (one_behind expectations (take i all) v cases _ why are refl)
