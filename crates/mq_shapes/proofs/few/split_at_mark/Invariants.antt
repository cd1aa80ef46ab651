use Rattle.std.proofs.Common.{length}
use Rattle.mq_topic.specs.Levels.{levels, levels_left}
use Rattle.mq_shapes.specs.Few.{IsPassed}
use Rattle.mq_shapes.proofs.few.split_at_mark.Given as goal

abbrev pub invariant-loop-rest : goal.invariant-loop-rest
invariant-loop-rest l =
    IsPassed l.fn.pattern l.fn.user (levels l.fn.text) l.count (levels_left l.rest)

abbrev pub decreases-loop-rest : goal.decreases-loop-rest
decreases-loop-rest l = length (levels_left l.rest)
