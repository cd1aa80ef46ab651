use Rattle.std.proofs.Common.{List, [], Bor, ◌∙◌, ap, not, subst, sym}
use Rattle.mq_acl.specs.Views.{row_view}
use Rattle.mq_acl.specs.declared.row.Row.{Row}
use Rattle.mq_witness.specs.Rows.{lent_rows}
use Rattle.mq_witness.specs.declared.topics.Topics.TheVariants as topics
use Rattle.mq_lint.specs.Cases.{NoneMeets, permits}
use Rattle.mq_lint.specs.Left.{left_of}
use Rattle.mq_lint.proofs.LeftLemmas.{left_within}
use Rattle.mq_lint.proofs.CaseLemmas.{other_inside}
use Rattle.mq_lint.proofs.ListLemmas.{meets_grant}
use Rattle.mq_lint.proofs.LoopLemmas.{NoneMet, all_more, none_met, passed_met}
use Rattle.mq_lint.proofs.case.Case.meets_grant.Goals as goal

pub loop-other-preserved-then-is_deny : goal.loop-other-preserved-then-is_deny
loop-other-preserved-then-is_deny c =
    let q = c.args.self.now.question in
    all_more (NoneMet topics.All q.asked.now q.clients (row_view q.row.now) permits [])
    c.deref-other-items.result.now c.loop-other.other-index c.other-item.result
    c.loop-other-test.true c.other-item.is
    (passed_met topics.All q.asked.now q.clients (row_view q.row.now) permits [] c.other-item.result
    (ap not (sym c.is_deny.ensures ∙ c.if-is_deny.true)))
    c.loop-other.invariant

pub stands_out_with-requires-clause-other : goal.stands_out_with-requires-clause-other
stands_out_with-requires-clause-other c =
    let q = c.args.self.now.question in
    other_inside q.clients (row_view q.row.now) (left_of q.asked.now c.args.self.now.called.now)
    q.asked.now.rows (left_within q.asked.now c.args.self.now.called.now) c.args.self.now.others.items
    c.deref-other-items.result.now c.loop-other.other-index c.other-item.result
    c.args.self.now.are_others c.deref-other-items.ensures.value c.loop-other-test.true
    c.other-item.is

pub returns-then-branch-clause-some : goal.returns-then-branch-clause-some
returns-then-branch-clause-some c = λ _.
    let q = c.args.self.now.question in
    meets_grant q.asked.now q.clients (row_view q.row.now) (row_view c.other-item.result.now)
    (sym c.is_deny.ensures ∙ c.if-is_deny.false)
    (other_inside q.clients (row_view q.row.now) (left_of q.asked.now c.args.self.now.called.now)
    q.asked.now.rows (left_within q.asked.now c.args.self.now.called.now) c.args.self.now.others.items
    c.deref-other-items.result.now c.loop-other.other-index c.other-item.result
    c.args.self.now.are_others c.deref-other-items.ensures.value c.loop-other-test.true
    c.other-item.is)
    (c.in_ok-stands_out_with.ensures.found c.if-branch.true)

pub loop-other-preserved : goal.loop-other-preserved
loop-other-preserved c =
    let q = c.args.self.now.question in
    all_more (NoneMet topics.All q.asked.now q.clients (row_view q.row.now) permits [])
    c.deref-other-items.result.now c.loop-other.other-index c.other-item.result
    c.loop-other-test.true c.other-item.is
    (λ _. c.in_ok-stands_out_with.ensures.none c.if-branch.false)
    c.loop-other.invariant

pub returns-clause-none : goal.returns-clause-none
returns-clause-none c = λ _.
    let q = c.args.self.now.question in
    subst (λ (l : List (Bor Row)). NoneMeets topics.All q.asked.now q.clients (row_view q.row.now) permits []
    (lent_rows l)) c.deref-other-items.ensures.value
    (none_met topics.All q.asked.now q.clients (row_view q.row.now) permits [] c.deref-other-items.result.now
    c.loop-other.other-index c.loop-other-test.false c.loop-other.invariant)
