use Rattle.std.proofs.Common.{◌+◌, ℕ, length}
use Rattle.mq_topic.specs.Levels.{levels, levels_left}
use Rattle.mq_shapes.specs.Total.{IsTotal}
use Rattle.mq_shapes.proofs.total.filter_total.Given as goal

-- those that were counted, and what is left
abbrev pub invariant-loop-rest : goal.invariant-loop-rest
invariant-loop-rest l = (more : ℕ) → IsTotal l.fn.pattern (levels_left l.rest) more
    → IsTotal l.fn.pattern (levels l.fn.text) (more + l.total)

abbrev pub decreases-loop-rest : goal.decreases-loop-rest
decreases-loop-rest l = length (levels_left l.rest)
