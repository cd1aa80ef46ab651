use Rattle.std.proofs.Common.{ap, ◌∙◌, nat_cmp}
use Rattle.std.specs.BTreeMap.{insert_entry}
use Rattle.std.specs.Cmp.Lexicographic.{slice_cmp}
use Rattle.std.specs.String.{string_bytes}
use Rattle.mq_tree.specs.Nodes.{children_of, entries_of}
use Rattle.mq_tree.proofs.Maps.{insert_children}
use Rattle.mq_tree.proofs.tree.node.edits.hang.Goals as goal

pub returns-in-Ok-clause-ok : goal.returns-in-Ok-clause-ok
returns-in-Ok-clause-ok g c =
    let old = c.args.children.now.entries in
    ap children_of c.in-Ok.ensures.entries ∙ insert_children c.args.level old c.in_ok-branch.branch
    ∙ ap (λ node. insert_entry (slice_cmp nat_cmp) (children_of old) (string_bytes c.args.level)
    (entries_of node)) c.in_ok-branch.ensures.ok
