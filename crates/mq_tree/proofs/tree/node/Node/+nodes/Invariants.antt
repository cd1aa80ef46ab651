use Rattle.std.proofs.Common.{◌≡◌, ◌+◌, ◌≤◌, length}
use Rattle.std.specs.Map.{keys_of}
use Rattle.mq_tree.specs.Below.{tally}
use Rattle.mq_topic.specs.Prefixes.{capped, prefixes}
use Rattle.mq_tree.specs.Nodes.{entries_of, below, weight, NoneDead}
use Rattle.mq_tree.proofs.tree.node.Node.+nodes.Given as goal

abbrev pub decreases-nodes : goal.decreases-nodes
decreases-nodes g l = weight (entries_of l.self.now)

abbrev pub invariant-loop-child : goal.invariant-loop-child
invariant-loop-child g l =
    record {
      count : capped (l.total + tally (λ child. length (prefixes (keys_of child.1)))
          l.child-iterator) ≡ capped (length (prefixes (keys_of (entries_of l.self))));
      fits : l.total ≤ 18446744073709551615;
      low : weight (below l.child-iterator) ≤ weight (entries_of l.self);
      live : NoneDead l.child-iterator;
    }
