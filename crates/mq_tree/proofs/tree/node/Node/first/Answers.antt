use Rattle.std.proofs.Common.{◌≡◌, [], ◌∷◌, refl, sym, ap, ◌∙◌}
use Rattle.std.specs.Prelude.{slice_get}
use Rattle.std.specs.Option.{option_map}
use Rattle.std.specs.String.{string_bytes}
use Rattle.mq_tree.specs.Nodes.{Branches, entries_in, children_of}
use Rattle.mq_tree.proofs.tree.node.Node.first.Goals as goal

first_child : {Y V : Type 0} (nodes : Branches Y V) → slice_get (children_of nodes) 0
    ≡ option_map (λ node. (string_bytes node.0, entries_in node.1)) (slice_get nodes 0)
first_child [] = refl
first_child (node ∷ nodes) = refl

pub returns-clause-first : goal.returns-clause-first
returns-clause-first g c =
    rw (← c.self.view_is, c.as_str.ensures.value, c.deref.ensures)
    (ap (option_map (λ node. (string_bytes node.0, entries_in node.1)))
    (sym c.in_ok-level.ensures.first) ∙ sym (first_child c.self.inside.children.entries))

pub returns-clause-children : goal.returns-clause-children
returns-clause-children g c = rw (← c.self.view_is) c.self.invariant

pub returns-in_err-level-clause-children : goal.returns-in_err-level-clause-children
returns-in_err-level-clause-children g c = rw (← c.self.view_is) c.self.invariant
