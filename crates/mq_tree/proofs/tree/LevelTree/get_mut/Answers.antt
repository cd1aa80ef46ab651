use Rattle.mq_topic.specs.Levels.{levels}
use Rattle.mq_tree.specs.Entries.{is_key}
use Rattle.mq_tree.specs.Nodes.{entries_of}
use Rattle.mq_tree.proofs.Changes.{put_at_most}
use Rattle.mq_tree.proofs.NodeCounts.{tells_set}
use Rattle.mq_tree.proofs.tree.LevelTree.get_mut.Goals as goal

pub invariant_of-self-lent : goal.invariant_of-self-lent
invariant_of-self-lent g c = λ w. record {
  ordered = put_at_most _ w (entries_of c.self.inside.root)
      (entries_of (c.get_mut.follows.lender w)) (c.get_mut.follows.holds w).2 c.self.invariant.ordered;
  counted = tells_set (is_key (levels c.text.result.now)) (entries_of c.self.inside.root) _ w _
      (rw c.in-Some.is at (c.get_mut.follows.holds w).0) c.self.invariant.counted;
}
