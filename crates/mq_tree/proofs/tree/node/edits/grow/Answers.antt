use Rattle.std.proofs.Common.{refl, ap, ◌∙◌, nat_cmp}
use Rattle.std.specs.BTreeMap.{insert_entry}
use Rattle.std.specs.Cmp.Lexicographic.{slice_cmp}
use Rattle.mq_tree.specs.Nodes.{children_of, entries_of}
use Rattle.mq_tree.proofs.Changes.{on_err}
use Rattle.mq_tree.proofs.tree.node.edits.grow.Goals as goal

pub returns-clause-ok : goal.returns-clause-ok
returns-clause-ok g c =
    let old = children_of c.args.children.now.entries in
    c.in_ok-hang.ensures.ok
    ∙ ap (λ l. insert_entry (slice_cmp nat_cmp) old l (entries_of c.in_ok-branch.branch))
    c.in_ok-level.ensures.ok ∙ ap (insert_entry (slice_cmp nat_cmp) old c.args.level.now)
    c.in_ok-branch.ensures.node

pub returns-in_err-branch-clause-err : goal.returns-in_err-branch-clause-err
returns-in_err-branch-clause-err g c = on_err c.from_residual-in_err-branch.result refl

pub returns-in_err-level-clause-err : goal.returns-in_err-level-clause-err
returns-in_err-level-clause-err g c = on_err c.from_residual.result refl

pub returns-in_err-hang-clause-err : goal.returns-in_err-hang-clause-err
returns-in_err-hang-clause-err g c =
    on_err c.from_residual-in_err-hang.result c.in_err-hang.ensures.err

pub returns-clause-ordered : goal.returns-clause-ordered
returns-clause-ordered g c = c.in_ok-hang.ensures.ordered
