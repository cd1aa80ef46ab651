use Rattle.mq_tree.proofs.Maps.{ordered_levels}
use Rattle.mq_tree.proofs.tree.node.Node.+branch.Goals as goal

pub invariant_of-result : goal.invariant_of-result
invariant_of-result g t c = record {
  ordered = ordered_levels c.new.result.entries c.new.ensures.ordered;
  live = rw c.new.ensures.empty tt;
}

pub invariant_of-result-2 : goal.invariant_of-result-2
invariant_of-result-2 g t c = record {
  ordered = ordered_levels c.hang.new.children.entries c.in_ok-hang.ensures.ordered;
  live = rw (c.in_ok-hang.ensures.ok, c.new-children.ensures.empty)
      (rw c.in_ok-child.ensures.node (λ e. absurd (cc)), tt);
}
