use Rattle.std.proofs.Common.{sym, ap, ◌∙◌}
use Rattle.std.specs.Option.{option_map, option_copied}
use Rattle.mq_tree.specs.Nodes.{entries_in}
use Rattle.mq_tree.proofs.Maps.{lookup_children}
use Rattle.mq_tree.proofs.tree.node.Node.child.Goals as goal

pub returns-in_err-child-clause-found : goal.returns-in_err-child-clause-found
returns-in_err-child-clause-found g c =
    rw (c.from_residual.ensures, ← c.self.view_is)
    (ap (option_map entries_in) (sym (ap option_copied c.in_err-child.was)
    ∙ c.get.ensures.value)
    ∙ sym (lookup_children c.args.level.now c.self.inside.children.entries))

pub returns-clause-found : goal.returns-clause-found
returns-clause-found g c =
    rw (← c.self.view_is, c.deref.ensures) (ap (option_map entries_in) c.in_ok-child.ensures.value
    ∙ sym (lookup_children c.args.level.now c.self.inside.children.entries))
