use Rattle.std.proofs.Common.{length}
use Rattle.mq_topic.specs.Levels.{levels, levels_left}
use Rattle.mq_shapes.specs.Covered.{LevelsApart}
use Rattle.mq_shapes.proofs.covered.levels_apart.Given as goal

-- where what is left of the two filters matches no same levels, all of them doesn't
abbrev pub invariant-loop-others : goal.invariant-loop-others
invariant-loop-others l =
    LevelsApart l.fn.this l.fn.that (levels_left l.others) (levels_left l.ones)
    → LevelsApart l.fn.this l.fn.that (levels l.fn.other) (levels l.fn.one)

abbrev pub decreases-loop-others : goal.decreases-loop-others
decreases-loop-others l = length (levels_left l.others)
