use Rattle.std.proofs.Common.{rules}
use Rattle.mq_tree.proofs.tree.node.edits.cut.Goals as goal

pub returns-clause-entries : goal.returns-clause-entries
returns-clause-entries c = search rules

pub returns-clause-ordered : goal.returns-clause-ordered
returns-clause-ordered c = search rules
