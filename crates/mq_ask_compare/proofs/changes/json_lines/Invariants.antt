use Rattle.std.proofs.Common.{◌≡◌, None, flat_map, string_bytes, take}
use Rattle.mq_ask_compare.specs.Changed.{change_text}
use Rattle.mq_print.specs.Lists.{lines_view}
use Rattle.mq_ask_compare.proofs.changes.json_lines.Given as goal

abbrev pub invariant-loop-difference : goal.invariant-loop-difference
invariant-loop-difference l = l.scope.traffic ≡ None → string_bytes l.text
    ≡ flat_map (change_text (lines_view l.old) (lines_view l.new))
    (take l.difference-index l.differences)
