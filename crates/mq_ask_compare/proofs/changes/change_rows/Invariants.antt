use Rattle.std.proofs.Common.{map, take}
use Rattle.mq_ask_cases.specs.ChangeRows.{change_view}
use Rattle.mq_ask_compare.specs.Worded.{AreRowsOf, script_file}
use Rattle.mq_print.specs.Lists.{lines_view}
use Rattle.mq_ask_compare.proofs.changes.change_rows.Given as goal

abbrev pub invariant-loop-group : goal.invariant-loop-group
invariant-loop-group l = AreRowsOf (script_file l.scope.traffic) (lines_view l.old)
    (lines_view l.new) (take l.group-index l.groups) (map change_view l.rows.items)
