use Rattle.std.proofs.Common.{◌≡◌, ◌++◌, length}
use Rattle.std.specs.Option.{option_map}
use Rattle.mq_topic.specs.Levels.{levels, levels_left}
use Rattle.mq_rename.specs.Lists.{texts}
use Rattle.mq_rename.specs.Meets.{met_levels}
use Rattle.mq_rename.proofs.meeting.met_levels.Given as goal

-- with what is left of both, they are all
abbrev pub invariant-loop-a_rest : goal.invariant-loop-a_rest
invariant-loop-a_rest l =
    option_map (λ ls. texts l.met.items ++ ls)
    (met_levels (levels_left l.a_rest) (levels_left l.b_rest))
    ≡ met_levels (levels l.fn.a) (levels l.fn.b)

abbrev pub decreases-loop-a_rest : goal.decreases-loop-a_rest
decreases-loop-a_rest l = length (levels_left l.a_rest)
