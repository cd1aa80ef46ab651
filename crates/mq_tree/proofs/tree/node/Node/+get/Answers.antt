use Rattle.std.proofs.Common.{sym, ap, ◌∙◌}
use Rattle.mq_topic.specs.Levels.{levels_left}
use Rattle.mq_tree.proofs.Children.{lookup-here}
use Rattle.mq_tree.specs.Nodes.{children_of}
use Rattle.mq_tree.proofs.Descents.{at_node, found_step}
use Rattle.mq_tree.proofs.tree.node.Node.+get.Goals as goal

pub returns-in_default : goal.returns-in_default
returns-in_default g t c =
    rw (c.in_default.is, ← c.self.view_is) (c.as_ref.ensures.value
    ∙ sym (lookup-here c.self.inside.value (children_of c.self.inside.children.entries)))

pub returns-in-Some-get : goal.returns-in-Some-get
returns-in-Some-get g t c =
    let at = at_node c.self.inside.children.entries (ap levels_left c.in-Some.is
    ∙ c.split_first.ensures) c.self.invariant c.self.view_is in
    rw c.deref.ensures at c.get-in-Some-get.ensures
    ∙ sym (found_step at _ (rw c.in-Some-get.is at c.get.ensures.value))

pub returns-in-None : goal.returns-in-None
returns-in-None g t c =
    let at = at_node c.self.inside.children.entries (ap levels_left c.in-Some.is
    ∙ c.split_first.ensures) c.self.invariant c.self.view_is in
    sym (found_step at _ (rw c.in-None.is at c.get.ensures.value))
