use Rattle.std.proofs.Common.{◌≡◌, ◌+◌, ◌++◌, length}
use Rattle.std.specs.List.{enumerate_from, filter_map}
use Rattle.mq_topic.specs.Levels.{levels, levels_left}
use Rattle.mq_plan.specs.Pairs.{place_if_plus, plus_places}
use Rattle.mq_plan.proofs.places.plus_places.Given as goal

abbrev pub invariant-loop-rest : goal.invariant-loop-rest
invariant-loop-rest l = record {
  counted : l.place + length (levels_left l.rest) ≡ length (levels l.fn.text);
  found : l.all.items ++ filter_map place_if_plus (enumerate_from l.place (levels_left l.rest))
      ≡ plus_places (levels l.fn.text);
}

abbrev pub decreases-loop-rest : goal.decreases-loop-rest
decreases-loop-rest l = length (levels_left l.rest)
