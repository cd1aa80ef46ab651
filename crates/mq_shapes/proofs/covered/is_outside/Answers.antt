use Rattle.mq_acl.specs.Views.{row_view}
use Rattle.mq_unify.specs.Rows.{lent_rows}
use Rattle.mq_shapes.proofs.ApartLemmas.{outside_one}
use Rattle.mq_shapes.proofs.CoveredLemmas.{among_all}
use Rattle.mq_shapes.proofs.covered.is_outside.Goals as goal

pub returns-then-is_apart : goal.returns-then-is_apart
returns-then-is_apart c = λ t.
    let one = c.one-item.result in
    outside_one (row_view c.args.row.now) (row_view one.now) (lent_rows c.args.must.now)
    (c.is_apart.ensures c.if-is_apart.true)
    (among_all c.args.must.now c.loop-one.one-index one c.loop-one-test.true c.one-item.is)
