use Rattle.mq_acl.specs.Views.{row_view}
use Rattle.mq_unify.specs.Rows.{lent_rows}
use Rattle.mq_shapes.proofs.CoveredLemmas.{among_any, hits_one}
use Rattle.mq_shapes.proofs.covered.some_covers.Goals as goal

pub returns-then-covers_all : goal.returns-then-covers_all
returns-then-covers_all c = λ t.
    let other = c.other-item.result in
    hits_one (row_view other.now) (row_view c.args.one.now) (lent_rows c.args.cover.now)
    (c.covers_all.ensures c.if-covers_all.true)
    (among_any c.args.cover.now c.loop-other.other-index other c.loop-other-test.true
    c.other-item.is)
