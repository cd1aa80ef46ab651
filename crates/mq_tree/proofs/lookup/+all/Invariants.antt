use Rattle.std.proofs.Common.{◌≡◌, ◌+◌, ◌++◌, ◌≤◌, map, length}
use Rattle.std.specs.Map.{values_of, keys_of}
use Rattle.std.specs.List.{flat_map}
use Rattle.mq_tree.specs.Below.{tally}
use Rattle.mq_tree.specs.Nodes.{entries_of, below, weight, NoneDead}
use Rattle.mq_topic.specs.Prefixes.{prefixes}
use Rattle.mq_tree.proofs.lookup.+all.Given as goal

abbrev pub decreases-all : goal.decreases-all
decreases-all g l = weight (entries_of l.node.now)

abbrev pub invariant-loop-child : goal.invariant-loop-child
invariant-loop-child g l =
    record {
      found : map (λ x. x.now) l.found.items ++ flat_map (λ child. values_of child.1)
          l.child-iterator ≡ map (λ x. x.now) l.initial.found.items
          ++ flat_map (λ child. values_of child.1) l.initial.child-iterator;
      count : l.steps + tally (λ child. length (prefixes (keys_of child.1))) l.child-iterator
          ≡ l.initial.steps + tally (λ child. length (prefixes (keys_of child.1)))
          l.initial.child-iterator;
      low : weight (below l.child-iterator) ≤ weight (entries_of l.node);
      live : NoneDead l.child-iterator;
    }
