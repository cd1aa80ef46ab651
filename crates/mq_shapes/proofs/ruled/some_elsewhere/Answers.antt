use Rattle.mq_acl.specs.Views.{row_view}
use Rattle.mq_unify.specs.Rows.{lent_rows}
use Rattle.mq_shapes.proofs.CoveredLemmas.{among_all}
use Rattle.mq_shapes.proofs.ElsewhereLemmas.{one_elsewhere}
use Rattle.mq_shapes.proofs.ruled.some_elsewhere.Goals as goal

pub returns-then-is_elsewhere : goal.returns-then-is_elsewhere
returns-then-is_elsewhere c = λ t.
    let row = c.row-item.result in
    one_elsewhere c.args.start (row_view row.now) (lent_rows c.args.rows.now)
    (c.is_elsewhere.ensures c.if-is_elsewhere.true)
    (among_all c.args.rows.now c.loop-row.row-index row c.loop-row-test.true c.row-item.is)
