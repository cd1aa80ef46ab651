use Rattle.mq_tree.proofs.Maps.{ordered_levels}
use Rattle.mq_tree.proofs.tree.node.Node.new.Goals as goal

pub invariant_of-result : goal.invariant_of-result
invariant_of-result g c = record {
  ordered = ordered_levels c.new.result.entries c.new.ensures.ordered;
  live = rw c.new.ensures.empty tt;
}
