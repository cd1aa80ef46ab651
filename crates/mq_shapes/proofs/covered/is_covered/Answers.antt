use Rattle.mq_acl.specs.Views.{row_view}
use Rattle.mq_unify.specs.Rows.{lent_rows}
use Rattle.mq_shapes.proofs.CoveredLemmas.{among_all, hits_all}
use Rattle.mq_shapes.proofs.covered.is_covered.Goals as goal

pub returns-then-some_covers : goal.returns-then-some_covers
returns-then-some_covers c = λ t.
    let one = c.one-item.result in
    hits_all (row_view one.now) (lent_rows c.args.must.now) (lent_rows c.args.cover.now)
    (c.some_covers.ensures c.if-some_covers.true)
    (among_all c.args.must.now c.loop-one.one-index one c.loop-one-test.true c.one-item.is)
