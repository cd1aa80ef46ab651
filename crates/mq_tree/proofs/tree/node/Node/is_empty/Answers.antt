use Rattle.mq_tree.proofs.Counts.{empty_from_none}
use Rattle.mq_tree.proofs.tree.node.Node.is_empty.Goals as goal

pub returns-then-is_none : goal.returns-then-is_none
returns-then-is_none g c =
    empty_from_none c.is_empty.result c.self.inside.value c.self.inside.children.entries
    c.args.self.now c.if-is_none.ensures c.self.view_is c.self.invariant c.is_empty.ensures
