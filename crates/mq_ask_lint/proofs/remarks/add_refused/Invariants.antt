use Rattle.std.proofs.Common.{◌≡◌, map, string_bytes, take, true}
use Rattle.mq_ask_lint.specs.Objects.{AddsObjects, refused_said, unremarked}
use Rattle.mq_print.specs.Lists.{lines_view}
use Rattle.mq_ask_lint.proofs.remarks.add_refused.Given as goal

abbrev pub invariant-loop-remark : goal.invariant-loop-remark
invariant-loop-remark l = l.options.json ≡ true → AddsObjects (lines_view l.lines)
    (map refused_said (unremarked l.odd (take l.remark-index l.refused)))
    (string_bytes l.fn.text) (string_bytes l.text)
