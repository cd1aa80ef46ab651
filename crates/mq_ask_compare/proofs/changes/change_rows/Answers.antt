use Rattle.mq_ask_compare.proofs.WordedLemmas.{rows_more}
use Rattle.mq_ask_compare.specs.Worded.{script_file}
use Rattle.mq_print.specs.Lists.{lines_view}
use Rattle.mq_ask_compare.proofs.changes.change_rows.Goals as goal

pub loop-group-preserved : goal.loop-group-preserved
loop-group-preserved c =
    rows_more (script_file c.args.scope.traffic) (lines_view c.args.old) (lines_view c.args.new)
    c.args.groups.now c.loop-group.group-index c.group-item.result c.loop-group.rows.items _
    c.in_ok-change_row.field-0 c.loop-group-test.true c.group-item.is c.in_ok-push.ensures.items
    c.loop-group.invariant c.in_ok-change_row.ensures
