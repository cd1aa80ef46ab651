use Rattle.std.proofs.Common.{◌≡◌, map, max, take}
use Rattle.mq_ask_cases.specs.ChangeRows.{widest}
use Rattle.mq_ask_cases.specs.Deciding.{side_view}
use Rattle.mq_ask_cases.proofs.change_rows.widened_by_sides.Given as goal

abbrev pub invariant-loop-side : goal.invariant-loop-side
invariant-loop-side l = l.width ≡ max l.fn.width
    (widest (map (λ side. side.place) (map side_view (take l.side-index l.sides))))
