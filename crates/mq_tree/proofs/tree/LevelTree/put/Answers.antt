use Rattle.mq_tree.proofs.Changes.{insert_in_order}
use Rattle.mq_tree.proofs.NodeCounts.{tells_more}
use Rattle.mq_tree.proofs.tree.LevelTree.put.Goals as goal

pub invariant_of-self : goal.invariant_of-self
invariant_of-self g c = rw c.in_err-older.ensures.err c.self.invariant

pub invariant_of-self-2 : goal.invariant_of-self-2
invariant_of-self-2 g c = let put = c.in_ok-older.ensures in record {
  ordered = rw put.ok (insert_in_order _ c.args.value _ c.self.invariant.ordered);
  counted = rw c.saturating_add-self-inside.ensures
      (tells_more _ _ _ _ c.self.invariant.counted put.built);
}
