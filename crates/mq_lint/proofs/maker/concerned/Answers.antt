use Rattle.std.proofs.Common.{◌∙◌, [], ◌∷◌, subst, sym}
use Rattle.mq_acl.specs.Views.{row_view}
use Rattle.mq_acl.specs.declared.access.Direction.{Direction}
use Rattle.mq_acl.specs.declared.row.Row.{Row}
use Rattle.mq_witness.specs.Asked.{AskedRows}
use Rattle.mq_witness.specs.declared.topics.Topics.TheVariants.{Open}
use Rattle.mq_lint.specs.Cases.{AreClasses, Finds, FindsNone, granted_in}
use Rattle.mq_lint.proofs.KindLemmas.{same_item}
use Rattle.mq_lint.proofs.LoopLemmas.{all_done, all_more}
use Rattle.mq_lint.proofs.MakerLemmas.{allows_nothing, allows_some}
use Rattle.mq_lint.proofs.maker.concerned.Goals as goal

pub returns-then-branch-clause-allows : goal.returns-then-branch-clause-allows
returns-then-branch-clause-allows c =
    let q = c.question-question.result in
    allows_some c.args.lint.now.asked q.clients (row_view c.args.row.now)
    (subst (λ (asked : AskedRows). Finds (Open (granted_in (row_view c.args.row.now).access)) asked
    q.clients (row_view c.args.row.now ∷ []) []) c.question-question.ensures.asked
    (subst (λ (r : Row). Finds (Open (granted_in (row_view c.args.row.now).access)) q.asked.now
    q.clients (row_view r ∷ []) []) c.question-question.ensures.row
    (subst (λ (d : Direction). Finds (Open d) q.asked.now q.clients (row_view q.row.now ∷ []) [])
    c.granted_in.ensures (c.in_ok-stands_out.ensures.found c.if-branch.true))))

pub loop-clients-preserved : goal.loop-clients-preserved
loop-clients-preserved c =
    let q = c.question-question.result in
    let row = row_view c.args.row.now in
    all_more (λ clients. FindsNone (Open (granted_in row.access)) c.args.lint.now.asked clients
    (row ∷ []) [])
    c.deref-clients-items.result.now c.loop-clients.clients-index q.clients
    c.loop-clients-test.true
    (c.question-question.ensures.clients
    ∙ same_item c.deref-clients-items.result.now c.loop-clients.clients-index _ q.clients
    c.loop-clients-test.true)
    (subst (λ (asked : AskedRows). FindsNone (Open (granted_in row.access)) asked q.clients
    (row ∷ []) []) c.question-question.ensures.asked
    (subst (λ (r : Row). FindsNone (Open (granted_in row.access)) q.asked.now q.clients
    (row_view r ∷ []) []) c.question-question.ensures.row
    (subst (λ (d : Direction). FindsNone (Open d) q.asked.now q.clients (row_view q.row.now ∷ []) [])
    c.granted_in.ensures (c.in_ok-stands_out.ensures.none c.if-branch.false))))
    c.loop-clients.invariant

pub returns-clause-none : goal.returns-clause-none
returns-clause-none c =
    let asked = c.args.lint.now.asked in
    let row = row_view c.args.row.now in
    let items = c.deref-clients-items.result.now in
    allows_nothing asked row items
    (subst (AreClasses asked row.who) (sym c.deref-clients-items.ensures.value)
    c.in_ok-classes.ensures)
    (all_done (λ clients. FindsNone (Open (granted_in row.access)) asked clients (row ∷ []) []) items
    c.loop-clients.clients-index c.loop-clients-test.false c.loop-clients.invariant)
