use Rattle.std.proofs.Common.{◌≡◌, map, take}
use Rattle.mq_ask_cases.specs.ChangeRows.{change_view, place_width}
use Rattle.mq_ask_cases.proofs.change_rows.place_width.Given as goal

abbrev pub invariant-loop-row : goal.invariant-loop-row
invariant-loop-row l = l.width ≡ place_width (map change_view (take l.row-index l.rows))
