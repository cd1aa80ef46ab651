use Rattle.std.proofs.Common.{arith}
use Rattle.mq_tree.proofs.Changes.{remove_in_order}
use Rattle.mq_tree.proofs.NodeCounts.{tells_fewer}
use Rattle.mq_tree.proofs.tree.LevelTree.take.Goals as goal

pub invariant_of-self : goal.invariant_of-self
invariant_of-self g c = record {
  ordered = rw c.take-taken.ensures.rest (remove_in_order _ _ c.self.invariant.ordered);
  counted = rw c.saturating_sub-self-inside.ensures (tells_fewer _ _ _ _ c.self.invariant.counted
      c.take-taken.ensures.gone c.if-self-lt18446744073709551615.true);
}

pub invariant_of-self-else-self-lt18446744073709551615 :
    goal.invariant_of-self-else-self-lt18446744073709551615
invariant_of-self-else-self-lt18446744073709551615 g c = record {
  ordered = rw c.take-taken.ensures.rest (remove_in_order _ _ c.self.invariant.ordered);
  counted = λ low. absurd (omega (arith, low, c.if-self-lt18446744073709551615.false));
}
