use Rattle.std.proofs.Common.{ap, sym, ◌∙◌, String, Global, List, ℕ, All, subst}
use Rattle.std.proofs.lemmas.List.Elements.{All-push}
use Rattle.mq_witness.specs.Ruled.{names_by}
use Rattle.mq_differences.specs.Differences.{IsUnnamed, has_text}
use Rattle.mq_differences.proofs.PlaceholderLemmas.{text_added, text_not, text_there}
use Rattle.mq_differences.proofs.placeholders.add_placeholder.Goals as goal

pub returns-then-not-is_placeholder-clause-shown : goal.returns-then-not-is_placeholder-clause-shown
returns-then-not-is_placeholder-clause-shown c = λ other.
    text_not c.args.placeholders.now.items c.args.text.now other
    c.args.asked.now (sym c.if-not-is_placeholder.ensures.placeholder)

pub returns-then-has_text-clause-shown : goal.returns-then-has_text-clause-shown
returns-then-has_text-clause-shown c = λ other.
    text_there c.args.placeholders.now.items c.args.text.now other
    c.args.asked.now
    (ap (λ (texts : List (String Global)). has_text texts c.args.text.now)
    (sym c.deref.ensures.value) ∙ sym c.if-has_text.ensures)

pub returns-clause-shown : goal.returns-clause-shown
returns-clause-shown c = λ other.
    ap (λ (texts : List (String Global)). has_text texts other) c.in_ok-push.ensures.items
    ∙ text_added c.args.placeholders.now.items c.in_ok-from_str.field-0 c.args.text.now other
    c.args.asked.now c.in_ok-from_str.ensures.ok (sym c.if-not-is_placeholder.ensures.placeholder)

pub returns-clause-unnamed : goal.returns-clause-unnamed
returns-clause-unnamed c = λ all.
    subst (All (IsUnnamed c.args.asked.now)) (sym c.in_ok-push.ensures.items)
    (All-push (IsUnnamed c.args.asked.now) c.args.placeholders.now.items c.in_ok-from_str.field-0
    all (ap (λ (t : List ℕ). names_by c.args.asked.now.rules t c.args.asked.now.rows)
    c.in_ok-from_str.ensures.ok
    ∙ c.is_placeholder.ensures.unnamed (c.is_placeholder.ensures.placeholder
    ∙ sym c.if-not-is_placeholder.ensures.placeholder)))
