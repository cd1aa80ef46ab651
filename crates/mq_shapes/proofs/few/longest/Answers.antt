use Rattle.std.proofs.Common.{subst, sym, take}
use Rattle.mq_acl.specs.Views.{row_view}
use Rattle.mq_unify.specs.Rows.{lent_rows}
use Rattle.mq_shapes.specs.Few.{AreWithin}
use Rattle.mq_shapes.proofs.CountLemmas.{lent_more, within_more}
use Rattle.mq_shapes.proofs.few.longest.Goals as goal

pub loop-row-preserved : goal.loop-row-preserved
loop-row-preserved c =
    let row = c.row-item.result in
    subst (AreWithin c.args.user c.in_ok-most.most)
    (sym (lent_more c.args.rows.now c.loop-row.row-index row c.loop-row-test.true c.row-item.is))
    (within_more c.args.user c.loop-row.most c.in_ok-most.most
    (lent_rows (take c.loop-row.row-index c.args.rows.now)) (row_view row.now)
    c.in_ok-most.ensures.more c.loop-row.invariant c.in_ok-most.ensures.within)
