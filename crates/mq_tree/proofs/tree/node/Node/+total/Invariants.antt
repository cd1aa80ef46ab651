use Rattle.std.proofs.Common.{◌≡◌, ◌+◌, ◌≤◌}
use Rattle.std.specs.List.{sum_by}
use Rattle.std.specs.Map.{values_of}
use Rattle.mq_topic.specs.Prefixes.{capped}
use Rattle.mq_tree.specs.Nodes.{entries_of, below, weight, NoneDead}
use Rattle.mq_tree.proofs.tree.node.Node.+total.Given as goal

abbrev pub decreases-total : goal.decreases-total
decreases-total g l = weight (entries_of l.self.now)

abbrev pub invariant-loop-child : goal.invariant-loop-child
invariant-loop-child g l =
    record {
      count : capped (l.total + sum_by (λ es. sum_by (λ e. g.V.Counted.count_of e.1) es)
          (values_of l.child-iterator))
          ≡ capped (sum_by (λ e. g.V.Counted.count_of e.1) (entries_of l.self));
      fits : l.total ≤ 18446744073709551615;
      low : weight (below l.child-iterator) ≤ weight (entries_of l.self);
      live : NoneDead l.child-iterator;
    }
