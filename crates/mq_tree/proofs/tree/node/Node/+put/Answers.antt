use Rattle.std.proofs.Common.{◌++◌, Some, None, sym, ap, ◌∙◌, ◌+◌, length, arith}
use Rattle.std.proofs.lemmas.Result.{on_ok_weaker, on_err_weaker}
use Rattle.std.specs.Box.{with_value}
use Rattle.mq_topic.specs.Levels.{levels_left}
use Rattle.mq_tree.specs.Nodes.{own, below, entries_in, children_of}
use Rattle.mq_tree.proofs.Edits.{insert-here}
use Rattle.mq_tree.proofs.Children.{lookup-here}
use Rattle.mq_tree.proofs.Changes.{live_put, on_err}
use Rattle.mq_tree.proofs.Descents.{at_node, found_step, put_kept, put_same, put_branch, some_child}
use Rattle.mq_tree.proofs.Descents.{children_set, children_hung}
use Rattle.mq_tree.proofs.NodeCounts.{nodes-own, count_put, count_hung}
use Rattle.mq_tree.proofs.tree.node.Node.+put.Goals as goal

pub returns-in_default-clause-older : goal.returns-in_default-clause-older
returns-in_default-clause-older g t c =
    rw (c.in_default.is, ← c.self.view_is) (c.replace.ensures.value
    ∙ sym (lookup-here c.self.inside.value (children_of c.self.inside.children.entries)))

pub returns-in_default-clause-ok : goal.returns-in_default-clause-ok
returns-in_default-clause-ok g t c =
    let children = children_of c.self.inside.children.entries in
    rw (c.in_default.is, ← c.self.view_is)
    (ap (λ v. own v ++ below children) c.replace.ensures.after
    ∙ sym (insert-here c.args.value c.self.inside.value children))

pub invariant_of-self-in-Some-get_mut : goal.invariant_of-self-in-Some-get_mut
invariant_of-self-in-Some-get_mut g t c =
    let at = at_node c.self.inside.children.entries (ap levels_left c.in-Some.is
    ∙ c.split_first.ensures) c.self.invariant c.self.view_is in
    let child = c.in-Some-get_mut.child.now in
    let new = with_value child c.put.new.self in
    let w = c.get_mut.follows.holds new in
    let found = rw c.in-Some-get_mut.is at c.get_mut.ensures.value in
    let same = c.deref_mut.ensures.value in
    children_set at new _
    (live_put c.put.result (entries_in child) (entries_in new) _ _
    (some_child at child found) (rw same at c.put.ensures.ok)
    (rw same at c.put.ensures.err)) w.0 w.4

pub returns-in-Some-get_mut : goal.returns-in-Some-get_mut
returns-in-Some-get_mut g t c =
    let at = at_node c.self.inside.children.entries (ap levels_left c.in-Some.is
    ∙ c.split_first.ensures) c.self.invariant c.self.view_is in
    let child = c.in-Some-get_mut.child.now in
    let new = with_value child c.put.new.self in
    let found = rw c.in-Some-get_mut.is at c.get_mut.ensures.value in
    let same = c.deref_mut.ensures.value in
    let there = found_step at (Some child) found in
    let w = c.get_mut.follows.holds new in
    let set = w.0 in
    let fin = children_set at new _
    (live_put c.put.result (entries_in child) (entries_in new) _ _
    (some_child at child found) (rw same at c.put.ensures.ok)
    (rw same at c.put.ensures.err)) set w.4 in
    record {
      older = rw there (rw same at c.put.ensures.older);
      ok = on_ok_weaker c.put.result (λ e. put_kept at child new c.args.value _ found e set)
          (rw same at c.put.ensures.ok);
      err = on_err_weaker c.put.result (λ e. put_same at child new _ found e set)
          (rw same at c.put.ensures.err);
      absent = rw there (rw same at c.put.ensures.absent);
      built = on_ok_weaker c.put.result (λ more. count_put at child new _ _ _ found set fin more)
          (rw same at c.put.ensures.built);
    }

pub returns-in_err-grow-clause-absent : goal.returns-in_err-grow-clause-absent
returns-in_err-grow-clause-absent g t c =
    let at = at_node c.self.inside.children.entries (ap levels_left c.in-Some.is
    ∙ c.split_first.ensures) c.self.invariant c.self.view_is in
    on_err c.from_residual.result
    (found_step at None (rw c.in_default-get_mut.is at c.get_mut.ensures.value))

pub invariant_of-self-2 : goal.invariant_of-self-2
invariant_of-self-2 g t c =
    let at = at_node c.self.inside.children.entries (ap levels_left c.in-Some.is
    ∙ c.split_first.ensures) c.self.invariant c.self.view_is in
    let old = ap (λ m. m.entries) c.get_mut.follows.holds-at-none in
    children_hung at c.args.value _ (rw old at c.in_ok-grow.ensures.ok)
    c.in_ok-grow.ensures.ordered

pub returns-clause-older : goal.returns-clause-older
returns-clause-older g t c =
    let at = at_node c.self.inside.children.entries (ap levels_left c.in-Some.is
    ∙ c.split_first.ensures) c.self.invariant c.self.view_is in
    sym (found_step at None (rw c.in_default-get_mut.is at c.get_mut.ensures.value))

pub returns-clause-ok : goal.returns-clause-ok
returns-clause-ok g t c =
    let at = at_node c.self.inside.children.entries (ap levels_left c.in-Some.is
    ∙ c.split_first.ensures) c.self.invariant c.self.view_is in
    let old = ap (λ m. m.entries) c.get_mut.follows.holds-at-none in
    put_branch at c.args.value _ (rw c.in_default-get_mut.is at c.get_mut.ensures.value)
    (rw old at c.in_ok-grow.ensures.ok)

pub returns-in_default-clause-built : goal.returns-in_default-clause-built
returns-in_default-clause-built g t c =
    let children = children_of c.self.inside.children.entries in
    rw (← c.self.view_is) (
      0,
      omega (
        arith,
        nodes-own c.self.inside.value (below children),
        nodes-own c.replace.new.self (below children),
      ),
      omega arith,
    )

pub returns-clause-built : goal.returns-clause-built
returns-clause-built g t c =
    let at = at_node c.self.inside.children.entries (ap levels_left c.in-Some.is
    ∙ c.split_first.ensures) c.self.invariant c.self.view_is in
    let old = ap (λ m. m.entries) c.get_mut.follows.holds-at-none in
    let hung = rw old at c.in_ok-grow.ensures.ok in (
      1 + length (levels_left c.split_first.result.1),
      count_hung at c.args.value _ (rw c.in_default-get_mut.is at c.get_mut.ensures.value) hung
          (children_hung at c.args.value _ hung c.in_ok-grow.ensures.ordered),
      c.in_ok-grow.ensures.built,
    )
