use Rattle.std.proofs.Common.{◌≡◌, map, string_bytes, take, true}
use Rattle.mq_ask_lint.specs.Objects.{AddsObjects, remark_said}
use Rattle.mq_print.specs.Lists.{lines_view}
use Rattle.mq_ask_lint.proofs.remarks.add_all.Given as goal

abbrev pub invariant-loop-remark : goal.invariant-loop-remark
invariant-loop-remark l = l.options.json ≡ true → AddsObjects (lines_view l.list)
    (map remark_said (take l.remark-index l.remarks)) (string_bytes l.fn.text)
    (string_bytes l.text)
