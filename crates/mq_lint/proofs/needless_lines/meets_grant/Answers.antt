use Rattle.std.proofs.Common.{[], ◌≡◌, true, ◌∙◌, ap, subst, sym}
use Rattle.mq_acl.specs.Views.{row_view}
use Rattle.mq_acl.specs.declared.row.Row.{Row}
use Rattle.mq_witness.specs.Asked.{AskedRows}
use Rattle.mq_witness.specs.Rows.{lent_rows}
use Rattle.mq_witness.specs.declared.topics.Topics.TheVariants as topics
use Rattle.mq_lint.specs.declared.called.Called.{Called}
use Rattle.mq_lint.proofs.LeftLemmas.{all_left}
use Rattle.mq_lint.specs.Cases.{AreClasses, has_row, NoneMeets, others_of, permits}
use Rattle.mq_lint.proofs.KindLemmas.{same_item}
use Rattle.mq_lint.proofs.ListLemmas.{denies_none}
use Rattle.mq_lint.proofs.LoopLemmas.{all_done, all_more}
use Rattle.mq_lint.proofs.needless_lines.meets_grant.Goals as goal

pub case-requires-clause-inside : goal.case-requires-clause-inside
case-requires-clause-inside c =
    subst (λ rows. has_row (row_view c.args.row.now) rows ≡ true)
    (sym (all_left c.args.lint.now.asked c.args.none.now c.requires.none)) c.requires.inside

pub loop-clients-preserved : goal.loop-clients-preserved
loop-clients-preserved c =
    let q = c.in_ok-case.case.question in
    let row = row_view c.args.row.now in
    all_more (λ clients. NoneMeets topics.All c.args.lint.now.asked clients row permits []
    (others_of clients row c.args.lint.now.asked.rows))
    c.deref-clients-items.result.now c.loop-clients.clients-index q.clients
    c.loop-clients-test.true
    (c.in_ok-case.ensures.clients
    ∙ same_item c.deref-clients-items.result.now c.loop-clients.clients-index _ q.clients
    c.loop-clients-test.true)
    (subst (λ (asked : AskedRows). NoneMeets topics.All asked q.clients row permits []
    (others_of q.clients row asked.rows)) c.in_ok-case.ensures.asked
    (subst (λ (r : Row). NoneMeets topics.All q.asked.now q.clients (row_view r) permits []
    (others_of q.clients (row_view r) q.asked.now.rows)) c.in_ok-case.ensures.row
    (subst (NoneMeets topics.All q.asked.now q.clients (row_view q.row.now) permits [])
    (c.in_ok-case.case.are_others ∙ ap (others_of q.clients (row_view q.row.now))
    (all_left q.asked.now c.in_ok-case.case.called.now
    (ap (λ (called : Called). lent_rows called.called.items) c.in_ok-case.ensures.called
    ∙ c.requires.none)))
    (c.in_ok-meets_grant.ensures.none c.if-branch.false))))
    c.loop-clients.invariant

pub returns-clause-none : goal.returns-clause-none
returns-clause-none c = λ _.
    let asked = c.args.lint.now.asked in
    let row = row_view c.args.row.now in
    let items = c.deref-clients-items.result.now in
    denies_none c.args.lint.now.rows.now asked row items c.args.lint.now.is_lint.rows_are
    c.requires.denies
    (subst (AreClasses asked row.who) (sym c.deref-clients-items.ensures.value)
    c.in_ok-classes.ensures)
    (all_done (λ clients. NoneMeets topics.All asked clients row permits [] (others_of clients row asked.rows)) items
    c.loop-clients.clients-index c.loop-clients-test.false c.loop-clients.invariant)
