use Rattle.std.proofs.Common.{length}
use Rattle.mq_topic.specs.Levels.{levels_left}
use Rattle.mq_tree.proofs.tree.node.Node.+branch.Given as goal

abbrev pub decreases-branch : goal.decreases-branch
decreases-branch g l = length (levels_left l.key)
