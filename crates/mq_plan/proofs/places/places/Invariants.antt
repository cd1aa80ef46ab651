use Rattle.std.proofs.Common.{length}
use Rattle.mq_topic.specs.Levels.{levels, levels_left}
use Rattle.mq_plan.proofs.PlaceLemmas.{ArePlaced}
use Rattle.mq_plan.proofs.places.places.Given as goal

abbrev pub invariant-loop-rest : goal.invariant-loop-rest
invariant-loop-rest l =
    ArePlaced (levels l.fn.left) (levels l.fn.right) (levels_left l.rest) l.all.items l.before

abbrev pub decreases-loop-rest : goal.decreases-loop-rest
decreases-loop-rest l = length (levels_left l.rest)
