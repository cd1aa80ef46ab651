-- The texts of verdicts.
use Rattle.std.proofs.Common.{◌≡◌, ◌++◌, ◌∙◌, ◌+◌, ◌<◌, ℕ, List, [], ◌∷◌, Option, ap, arith}
use Rattle.std.proofs.Common.{append_assoc, append-nil, get_or, length, refl, subst, sym, take}
use Rattle.std.proofs.lemmas.Grind.{common_steps}
use Rattle.mq_ask_test.specs.Objects.{AreVerdictTexts, Example, example_of, verdict_members}
use Rattle.mq_ask_test.specs.Objects.{verdict_text}
use Rattle.mq_ask_test.specs.Questions.{asked_view}
use Rattle.mq_ask_test.specs.declared.list.ReadList.{ReadList}
use Rattle.mq_ask_test.specs.declared.verdicts.Verdict.{Verdict}
use Rattle.mq_print.specs.Lists.{ListView}
use Rattle.mq_print.specs.Objects.{object_text}

-- what a verdict is written as, with this for what shows it
pub verdict_is : (lists : List ReadList) (expectations : ListView) (v : Verdict) (e : Example)
    (words : Option (List ℕ)) (before after : List ℕ)
    → e ≡ example_of lists (asked_view v.asked) v.finding
    → after ≡ before ++ object_text (verdict_members expectations (asked_view v.asked) v.finding
    e words)
    → after ≡ before ++ verdict_text lists expectations v words
verdict_is lists expectations v e words before after same is =
    subst (λ (it : Example). after ≡ before ++ object_text (verdict_members expectations
    (asked_view v.asked) v.finding it words)) same is

-- one more behind them
one_behind : (lists : List ReadList) (expectations : ListView) (all : List Verdict) (v : Verdict)
    (before after : List ℕ) (words : Option (List ℕ))
    → AreVerdictTexts lists expectations all before
    → after ≡ before ++ verdict_text lists expectations v words
    → AreVerdictTexts lists expectations (all ++ (v ∷ [])) after
one_behind lists expectations [] v before after words are is = (
  words,
  [],
  is ∙ ap (λ b. b ++ verdict_text lists expectations v words) are ∙ sym (append-nil _),
  refl,
)
one_behind lists expectations (w ∷ ws) v before after words are is =
    let text = verdict_text lists expectations v words in (
      are.0,
      are.1 ++ text,
      is ∙ ap (λ b. b ++ text) are.2 ∙ append_assoc _ are.1 text,
      one_behind lists expectations ws v are.1 (are.1 ++ text) words are.3 refl,
    )

-- one more of those that are taken
pub one_more : (lists : List ReadList) (expectations : ListView) (all : List Verdict) (i : ℕ)
    (v : Verdict) (before after : List ℕ) (words : Option (List ℕ)) → i < length all
    → v ≡ get_or all i v → AreVerdictTexts lists expectations (take i all) before
    → after ≡ before ++ verdict_text lists expectations v words
    → AreVerdictTexts lists expectations (take (i + 1) all) after
one_more lists expectations all i v before after words inside is_at are is =
    let taken : take i all ++ (v ∷ []) ≡ take (i + 1) all = grind (arith, common_steps) in
    subst (λ (vs : List Verdict). AreVerdictTexts lists expectations vs after) taken
    (one_behind lists expectations (take i all) v before after words are is)
