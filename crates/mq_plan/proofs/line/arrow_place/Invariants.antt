use Rattle.std.proofs.Common.{◌≡◌, ◌-◌, drop, length}
use Rattle.std.specs.Prelude.{find}
use Rattle.std.specs.List.{range_with_len}
use Rattle.mq_plan.specs.Lines.{arrow_place, is_arrow}
use Rattle.mq_plan.proofs.line.arrow_place.Given as goal

-- no arrow begins before this place
abbrev pub invariant-loop-place : goal.invariant-loop-place
invariant-loop-place l =
    find (λ i. is_arrow (drop i l.bytes)) (range_with_len l.place (length l.bytes - l.place))
    ≡ arrow_place l.bytes
