use Rattle.std.proofs.Common.{◌≡◌, ◌++◌, flat_map, map, string_bytes, take}
use Rattle.mq_ask_cases.specs.ChangeRows.{side_line}
use Rattle.mq_ask_cases.specs.Deciding.{side_view}
use Rattle.mq_ask_cases.proofs.change_rows.add_sides.Given as goal

abbrev pub invariant-loop-side : goal.invariant-loop-side
invariant-loop-side l = string_bytes l.text ≡ string_bytes l.fn.text
    ++ flat_map (side_line l.width) (map side_view (take l.side-index l.sides))
