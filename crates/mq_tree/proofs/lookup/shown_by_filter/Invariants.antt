use Rattle.std.proofs.Common.{◌≡◌, ◌+◌, ◌++◌, map, length}
use Rattle.std.specs.Prelude.{not}
use Rattle.std.specs.Map.{keys_of}
use Rattle.std.specs.List.{filter, flat_map}
use Rattle.mq_topic.specs.Levels.{levels_left}
use Rattle.mq_tree.specs.Below.{HashLast, matches_below, meets_filter, values_at, tally}
use Rattle.mq_tree.specs.Below.{begins_with_dollar}
use Rattle.mq_topic.specs.Prefixes.{prefixes}
use Rattle.mq_tree.proofs.lookup.shown_by_filter.Given as goal

abbrev pub invariant-loop-child : goal.invariant-loop-child
invariant-loop-child g l =
    let rest = levels_left l.topic_filter in
    let left = filter (λ child. not (begins_with_dollar child.0)) l.child-iterator in
    let all = filter (λ child. not (begins_with_dollar child.0)) l.initial.child-iterator in
    record {
      found : map (λ x. x.now) l.found.items ++ flat_map
          (λ child. values_at (matches_below rest) child.1) left
          ≡ map (λ x. x.now) l.initial.found.items
          ++ flat_map (λ child. values_at (matches_below rest) child.1) all;
      count : l.steps + tally
          (λ child. length (filter (meets_filter rest) (prefixes (keys_of child.1)))) left
          ≡ l.initial.steps + tally
          (λ child. length (filter (meets_filter rest) (prefixes (keys_of child.1)))) all;
      hash_last : HashLast rest;
    }
