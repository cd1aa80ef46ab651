use Rattle.std.proofs.Common.{◌≡◌, ◌+◌, ◌++◌, map, length, drop}
use Rattle.std.specs.List.{flat_map}
use Rattle.mq_topic.specs.Levels.{levels_left}
use Rattle.mq_tree.specs.Below.{ArePlain, tally}
use Rattle.mq_tree.proofs.Children.{gather, one}
use Rattle.mq_tree.proofs.Turns.{found_at, met_at}
use Rattle.mq_tree.proofs.lookup.+below_by_name.Given as goal

abbrev pub decreases-below_by_name : goal.decreases-below_by_name
decreases-below_by_name g l = length (levels_left l.name)

abbrev pub invariant-loop-candidate : goal.invariant-loop-candidate
invariant-loop-candidate g l =
    let rest = levels_left l.rest in
    let left = gather one l.node.1 (map (λ x. x.now) (drop l.candidate-index l.candidate-items)) in
    let all = gather one l.node.1 (map (λ x. x.now) l.candidate-items) in
    record {
      found : map (λ x. x.now) l.found.items ++ flat_map (found_at rest) left
          ≡ map (λ x. x.now) l.fn.found.items ++ flat_map (found_at rest) all;
      count : l.steps + tally (met_at rest) left ≡ l.fn.steps + tally (met_at rest) all;
      plain : ArePlain rest;
    }
