use Rattle.std.proofs.Common.{rules}
use Rattle.mq_tree.proofs.tree.node.queries.own_count.Goals as goal

pub returns-in-Some : goal.returns-in-Some
returns-in-Some c = search rules
