use Rattle.std.proofs.Common.{arith}
use Rattle.mq_acl.specs.Views.{row_view}
use Rattle.mq_unify.specs.Rows.{lent_rows}
use Rattle.mq_shapes.proofs.CoveredLemmas.{among_all}
use Rattle.mq_shapes.proofs.TotalLemmas.{fewer}
use Rattle.mq_shapes.proofs.total.most_total.Goals as goal

pub loop-row-preserved : goal.loop-row-preserved
loop-row-preserved c =
    let row = c.row-item.result in
    record {
      few = omega (arith, c.loop-row.invariant.few, c.least_of-most.ensures.less);
      within = fewer (lent_rows c.args.rows.now) (row_view row.now) c.loop-row.most
          c.least_of-most.result c.loop-row.invariant.within c.least_of-most.ensures.enough
          (among_all c.args.rows.now c.loop-row.row-index row c.loop-row-test.true c.row-item.is);
    }
