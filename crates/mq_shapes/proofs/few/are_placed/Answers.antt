use Rattle.std.proofs.Common.{subst, sym, take}
use Rattle.mq_acl.specs.Views.{row_view}
use Rattle.mq_unify.specs.Rows.{lent_rows}
use Rattle.mq_shapes.specs.Few.{ArePlaced}
use Rattle.mq_shapes.proofs.CountLemmas.{lent_more, placed_more}
use Rattle.mq_shapes.proofs.few.are_placed.Goals as goal

pub loop-row-preserved : goal.loop-row-preserved
loop-row-preserved c =
    let row = c.row-item.result in
    subst (ArePlaced c.args.user c.args.place)
    (sym (lent_more c.args.rows.now c.loop-row.row-index row c.loop-row-test.true c.row-item.is))
    (placed_more c.args.user c.args.place (lent_rows (take c.loop-row.row-index c.args.rows.now))
    (row_view row.now) c.loop-row.invariant (c.is_placed.ensures c.if-not-is_placed.false))
