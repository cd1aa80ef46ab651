use Rattle.mq_regions.proofs.LineLemmas.{rows_step}
use Rattle.mq_regions.proofs.list.made_rows.Goals as goal

pub loop-row-preserved : goal.loop-row-preserved
loop-row-preserved c =
    rows_step c.args.rows.now c.loop-row.row-index c.row-item.result c.loop-row-test.true
    c.row-item.is c.in_ok-append.ensures.items c.loop-row.invariant c.in_ok-own.ensures.group
