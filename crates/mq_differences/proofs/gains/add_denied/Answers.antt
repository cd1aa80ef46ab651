use Rattle.std.proofs.Common.{◌≡◌, ◌<◌, length, take, get_or, ap, sym, ◌∙◌, subst, arith, List}
use Rattle.std.proofs.lemmas.Grind.{common_steps}
use Rattle.std.proofs.lemmas.Option.{gets}
use Rattle.mq_differences.specs.Questions.{IsSplit, rules_in}
use Rattle.mq_differences.specs.declared.marks.Marked.{Marked}
use Rattle.mq_differences.proofs.EveryLemmas.{kept_denied, passes_over}
use Rattle.mq_differences.proofs.MarkLemmas.{get_same, split_at}
use Rattle.mq_differences.proofs.gains.add_denied.Goals as goal

pub returns-then-decides_elsewhere-clause-shown : goal.returns-then-decides_elsewhere-clause-shown
returns-then-decides_elsewhere-clause-shown c = λ d low deny.
    let rows = c.args.question.now.from.now.rows.items in
    let grant = c.args.grant.now in
    let is : c.in-Some.deny.now ≡ get_or c.deref.result.now c.args.place c.in-Some.deny.now =
    grind (arith, common_steps, gets) in
    let same : get_or rows c.args.place d ≡ c.in-Some.deny.now =
    get_same rows c.args.place d c.in-Some.deny.now low
    ∙ ap (λ (ms : List Marked). get_or ms c.args.place c.in-Some.deny.now)
    (sym c.deref.ensures.value) ∙ sym is in
    kept_denied c.args.question.now c.args.report.now.differences.items c.args.place d
    c.args.before.now grant c.requires.question c.requires.placed low deny
    (ap (λ (m : Marked). passes_over (rules_in c.args.question.now) m grant) same
    ∙ ap (λ r. passes_over r c.in-Some.deny.now grant) (sym c.requires.question.rules)
    ∙ sym c.decides_elsewhere.ensures ∙ c.if-decides_elsewhere.true)

pub add_gain-requires-clause-gain : goal.add_gain-requires-clause-gain
add_gain-requires-clause-gain c =
    let rows = c.args.question.now.from.now.rows.items in
    let deny = c.in-Some.deny.now in
    let is : deny ≡ get_or c.deref.result.now c.args.place deny =
    grind (arith, common_steps, gets) in
    let low : c.args.place < length c.deref.result.now = grind (arith, common_steps, gets) in
    record {
      grant = c.requires.placed.split;
      grants = c.requires.placed.grants;
      from = (
        subst (λ (ms : List Marked). IsSplit rows (take c.args.place ms) deny.row.now)
            (sym c.deref-2.ensures.value)
            (split_at rows c.args.place deny
            (subst (λ (ms : List Marked). c.args.place < length ms) c.deref.ensures.value low)
            (is ∙ ap (λ (ms : List Marked). get_or ms c.args.place deny) c.deref.ensures.value)),
        sym c.is_deny.ensures ∙ c.if-not-is_deny.false,
      );
    }
