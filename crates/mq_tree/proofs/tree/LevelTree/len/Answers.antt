use Rattle.std.proofs.Common.{rules}
use Rattle.mq_tree.proofs.tree.LevelTree.len.Goals as goal

pub returns-clause-count : goal.returns-clause-count
returns-clause-count c = search rules
