use Rattle.std.proofs.Common.{◌∙◌, ap, subst, sym}
use Rattle.mq_acl.specs.Views.{row_view}
use Rattle.mq_acl.specs.declared.row.Row.{Row}
use Rattle.mq_acl.specs.declared.rules.Rules.{Rules}
use Rattle.mq_witness.specs.Asked.{AskedRows}
use Rattle.mq_lint.specs.Needless.{may_make}
use Rattle.mq_lint.specs.Cases.{AddsIn, AddsNone, AreClasses}
use Rattle.mq_lint.proofs.KindLemmas.{same_item}
use Rattle.mq_lint.proofs.LoopLemmas.{all_done, all_more}
use Rattle.mq_lint.proofs.MakerLemmas.{makes_needless, makes_nothing}
use Rattle.mq_lint.proofs.maker.makes_needless.Goals as goal

pub loop-clients-preserved : goal.loop-clients-preserved
loop-clients-preserved c =
    let q = c.question-question.result in
    let row = row_view c.args.row.now in
    let other = row_view c.args.other.now in
    all_more (AddsNone c.args.lint.now.asked row other)
    c.deref-clients-items.result.now c.loop-clients.clients-index q.clients
    c.loop-clients-test.true
    (c.question-question.ensures.clients
    ∙ same_item c.deref-clients-items.result.now c.loop-clients.clients-index _ q.clients
    c.loop-clients-test.true)
    (subst (λ (asked : AskedRows). AddsNone asked row other q.clients)
    c.question-question.ensures.asked
    (subst (λ (r : Row). AddsNone q.asked.now (row_view r) other q.clients)
    c.question-question.ensures.row (c.in_ok-adds.ensures.none c.if-branch.false)))
    c.loop-clients.invariant

pub returns-then-branch-clause-other : goal.returns-then-branch-clause-other
returns-then-branch-clause-other c = λ _.
    let q = c.question-question.result in
    let row = row_view c.args.row.now in
    let other = row_view c.args.other.now in
    let adds = c.in_ok-adds.ensures.some c.if-branch.true in
    makes_nothing c.args.lint.now.asked q.clients row other adds.0
    (subst (λ (asked : AskedRows). AddsIn asked q.clients row other adds.0)
    c.question-question.ensures.asked
    (subst (λ (r : Row). AddsIn q.asked.now q.clients (row_view r) other adds.0)
    c.question-question.ensures.row adds.1))

pub returns-clause-makes : goal.returns-clause-makes
returns-clause-makes c = λ _.
    let asked = c.args.lint.now.asked in
    let row = row_view c.args.row.now in
    let other = row_view c.args.other.now in
    let items = c.deref-clients-items.result.now in
    makes_needless asked row other items
    (subst (AreClasses asked row.who) (sym c.deref-clients-items.ensures.value)
    c.in_ok-classes.ensures)
    (ap (λ (rules : Rules). may_make rules other row)
    (sym c.args.lint.now.is_lint.rules_are) ∙ (sym c.may_make.ensures ∙ c.if-not-may_make.false))
    (all_done (AddsNone asked row other) items c.loop-clients.clients-index
    c.loop-clients-test.false c.loop-clients.invariant)
