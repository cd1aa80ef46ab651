use Rattle.std.proofs.Common.{◌≡◌, ◌+◌, length}
use Rattle.std.specs.Prelude.{slice_get}
use Rattle.std.specs.List.{enumerate_from, filter_map}
use Rattle.mq_topic.specs.Levels.{levels, levels_left}
use Rattle.mq_plan.specs.Sides.{first_level_fault, level_fault}
use Rattle.mq_plan.proofs.side.first_level_fault.Given as goal

abbrev pub invariant-loop-rest : goal.invariant-loop-rest
invariant-loop-rest l = record {
  counted : l.place + length (levels_left l.rest) ≡ length (levels l.fn.text);
  first : slice_get (filter_map (level_fault l.fn.side (length (levels l.fn.text)))
      (enumerate_from l.place (levels_left l.rest))) 0
      ≡ first_level_fault l.fn.side (levels l.fn.text);
}

abbrev pub decreases-loop-rest : goal.decreases-loop-rest
decreases-loop-rest l = length (levels_left l.rest)
