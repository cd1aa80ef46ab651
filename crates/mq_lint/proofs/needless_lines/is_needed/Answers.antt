use Rattle.std.proofs.Common.{◌∙◌, subst, sym}
use Rattle.mq_acl.specs.Views.{row_view}
use Rattle.mq_acl.specs.declared.row.Row.{Row}
use Rattle.mq_witness.specs.Asked.{AskedRows}
use Rattle.mq_witness.specs.Rows.{lent_rows}
use Rattle.mq_lint.specs.Cases.{AreClasses, IsNeeded, IsNeedlessTo}
use Rattle.mq_lint.specs.Left.{left_of}
use Rattle.mq_lint.specs.declared.called.Called.{Called}
use Rattle.mq_lint.proofs.KindLemmas.{same_item}
use Rattle.mq_lint.proofs.ListLemmas.{needless_all}
use Rattle.mq_lint.proofs.LoopLemmas.{all_done, all_more}
use Rattle.mq_lint.proofs.SameLemmas.{has_kept}
use Rattle.mq_lint.proofs.needless_lines.is_needed.Goals as goal

pub classes-requires : goal.classes-requires
classes-requires c =
    has_kept (lent_rows c.args.called.now.called.items) (row_view c.args.row.now)
    c.args.lint.now.asked.rows c.requires.inside

pub returns-then-branch-clause-needed : goal.returns-then-branch-clause-needed
returns-then-branch-clause-needed c = λ _.
    let q = c.in_ok-case.case.question in
    subst (λ (asked : AskedRows). IsNeeded asked (left_of asked c.args.called.now)
    (row_view c.args.row.now)) c.in_ok-case.ensures.asked
    (subst (λ (called : Called). IsNeeded q.asked.now (left_of q.asked.now called)
    (row_view c.args.row.now)) c.in_ok-case.ensures.called
    (subst (λ (row : Row). IsNeeded q.asked.now
    (left_of q.asked.now c.in_ok-case.case.called.now) (row_view row)) c.in_ok-case.ensures.row
    (c.in_ok-is_needed.ensures.needed c.if-branch.true)))

pub loop-clients-preserved : goal.loop-clients-preserved
loop-clients-preserved c =
    let q = c.in_ok-case.case.question in
    all_more (λ clients. IsNeedlessTo c.args.lint.now.asked
    (left_of c.args.lint.now.asked c.args.called.now) clients (row_view c.args.row.now))
    c.deref-clients-items.result.now c.loop-clients.clients-index q.clients
    c.loop-clients-test.true
    (c.in_ok-case.ensures.clients
    ∙ same_item c.deref-clients-items.result.now c.loop-clients.clients-index _ q.clients
    c.loop-clients-test.true)
    (subst (λ (asked : AskedRows). IsNeedlessTo asked (left_of asked c.args.called.now) q.clients
    (row_view c.args.row.now)) c.in_ok-case.ensures.asked
    (subst (λ (called : Called). IsNeedlessTo q.asked.now (left_of q.asked.now called) q.clients
    (row_view c.args.row.now)) c.in_ok-case.ensures.called
    (subst (λ (row : Row). IsNeedlessTo q.asked.now
    (left_of q.asked.now c.in_ok-case.case.called.now) q.clients (row_view row))
    c.in_ok-case.ensures.row (c.in_ok-is_needed.ensures.needless c.if-branch.false))))
    c.loop-clients.invariant

pub returns-clause-needless : goal.returns-clause-needless
returns-clause-needless c = λ _.
    let asked = c.args.lint.now.asked in
    let left = left_of c.args.lint.now.asked c.args.called.now in
    let row = row_view c.args.row.now in
    let items = c.deref-clients-items.result.now in
    needless_all asked left row items c.requires.inside
    (subst (AreClasses asked row.who) (sym c.deref-clients-items.ensures.value)
    c.in_ok-classes.ensures)
    (all_done (λ clients. IsNeedlessTo asked left clients row) items c.loop-clients.clients-index
    c.loop-clients-test.false c.loop-clients.invariant)
