use Rattle.mq_acl.specs.Views.{row_view}
use Rattle.mq_unify.specs.Rows.{lent_rows}
use Rattle.mq_shapes.proofs.ApartLemmas.{outside_all}
use Rattle.mq_shapes.proofs.CoveredLemmas.{among_all}
use Rattle.mq_shapes.proofs.covered.are_apart.Goals as goal

pub returns-then-is_outside : goal.returns-then-is_outside
returns-then-is_outside c = λ t.
    let row = c.row-item.result in
    outside_all (row_view row.now) (lent_rows c.args.rows.now)
    (c.is_outside.ensures c.if-is_outside.true)
    (among_all c.args.rows.now c.loop-row.row-index row c.loop-row-test.true c.row-item.is)
