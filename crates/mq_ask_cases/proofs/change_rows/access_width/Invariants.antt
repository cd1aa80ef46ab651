use Rattle.std.proofs.Common.{◌≡◌, map, take}
use Rattle.mq_ask_cases.specs.ChangeRows.{access_width, change_view}
use Rattle.mq_ask_cases.proofs.change_rows.access_width.Given as goal

abbrev pub invariant-loop-row : goal.invariant-loop-row
invariant-loop-row l = l.width ≡ access_width (map change_view (take l.row-index l.rows))
