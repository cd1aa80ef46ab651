use Rattle.mq_differences.specs.Groups.{IsGathered}
use Rattle.mq_differences.proofs.group.gather.Given as goal

-- those that came are gathered
abbrev pub invariant-loop-difference : goal.invariant-loop-difference
invariant-loop-difference l = IsGathered l.yielded l.gathering
