use Rattle.std.proofs.Common.{◌++◌, Some, None, sym, ap, ◌∙◌, arith}
use Rattle.std.specs.Box.{with_value}
use Rattle.mq_topic.specs.Levels.{levels_left}
use Rattle.mq_tree.specs.Nodes.{own, below, children_of}
use Rattle.mq_tree.proofs.Edits.{remove-here}
use Rattle.mq_tree.proofs.Children.{lookup-here}
use Rattle.mq_tree.proofs.Changes.{nil_from_empty, some_from_not_empty}
use Rattle.mq_tree.proofs.Descents.{at_node, found_step, take_kept, take_cut, take_none}
use Rattle.mq_tree.proofs.Descents.{children_set, children_cut}
use Rattle.mq_tree.proofs.NodeCounts.{nodes-own, count_take, count_take_cut}
use Rattle.mq_tree.proofs.tree.node.Node.+take.Goals as goal

pub returns-in_default-clause-value : goal.returns-in_default-clause-value
returns-in_default-clause-value g t c =
    rw (c.in_default.is, ← c.self.view_is) (c.take.ensures.value
    ∙ sym (lookup-here c.self.inside.value (children_of c.self.inside.children.entries)))

pub returns-in_default-clause-rest : goal.returns-in_default-clause-rest
returns-in_default-clause-rest g t c =
    let children = children_of c.self.inside.children.entries in
    rw (c.in_default.is, ← c.self.view_is) (ap (λ v. own v ++ below children) c.take.ensures.after
    ∙ sym (remove-here c.self.inside.value children))

pub returns-in_default-clause-gone : goal.returns-in_default-clause-gone
returns-in_default-clause-gone g t c =
    let children = children_of c.self.inside.children.entries in
    rw (← c.self.view_is) (
      0,
      omega (
        arith,
        nodes-own c.self.inside.value (below children),
        nodes-own c.take.new.self (below children),
      ),
      omega arith,
    )

pub returns-in_default-get_mut : goal.returns-in_default-get_mut
returns-in_default-get_mut g t c =
    let at = at_node c.self.inside.children.entries (ap levels_left c.in-Some.is
    ∙ c.split_first.ensures) c.self.invariant c.self.view_is in
    let found = rw c.in_default-get_mut.is at c.get_mut.ensures.value in
    let same = ap (λ m. m.entries) c.get_mut.follows.holds-at-none in
    record {
      value = sym (found_step at None found);
      rest = take_none at c.get_mut.follows.lender-at-none.entries found same;
      gone = (
        0,
        rw (same, ← c.self.view_is) (omega arith),
        omega arith,
      );
    }

pub invariant_of-self-then-is_empty : goal.invariant_of-self-then-is_empty
invariant_of-self-then-is_empty g t c =
    let at = at_node c.self.inside.children.entries (ap levels_left c.in-Some.is
    ∙ c.split_first.ensures) c.self.invariant c.self.view_is in
    let new = with_value c.in-Some-get_mut.child.now c.take-taken.new.self in
    children_cut at new _ (rw (c.get_mut.follows.holds new).0 at c.cut.ensures.entries)
    c.cut.ensures.ordered

pub invariant_of-self-else-is_empty : goal.invariant_of-self-else-is_empty
invariant_of-self-else-is_empty g t c =
    let at = at_node c.self.inside.children.entries (ap levels_left c.in-Some.is
    ∙ c.split_first.ensures) c.self.invariant c.self.view_is in
    let new = with_value c.in-Some-get_mut.child.now c.take-taken.new.self in
    let w = c.get_mut.follows.holds new in
    children_set at new _
    (some_from_not_empty _ c.is_empty.result (rw c.deref.ensures at c.is_empty.ensures)
    c.if-is_empty.false) w.0 w.4

pub returns-then-is_empty : goal.returns-then-is_empty
returns-then-is_empty g t c =
    let at = at_node c.self.inside.children.entries (ap levels_left c.in-Some.is
    ∙ c.split_first.ensures) c.self.invariant c.self.view_is in
    let child = c.in-Some-get_mut.child.now in
    let new = with_value child c.take-taken.new.self in
    let found = rw c.in-Some-get_mut.is at c.get_mut.ensures.value in
    let left = rw (c.get_mut.follows.holds new).0 at c.cut.ensures.entries in
    let none = nil_from_empty _ c.is_empty.result (rw c.deref.ensures at c.is_empty.ensures)
    c.if-is_empty.true in
    record {
      value = rw c.deref_mut.ensures.value at c.take-taken.ensures.value
          ∙ sym (found_step at (Some child) found);
      rest = take_cut at child new _ found
          (rw c.deref_mut.ensures.value at c.take-taken.ensures.rest) none left;
      gone = count_take_cut at child new _ _ _ _ found left
          (children_cut at new _ left c.cut.ensures.ordered) none
          (rw c.deref_mut.ensures.value at c.take-taken.ensures.gone)
          c.saturating_add.ensures;
    }

pub returns-else-is_empty : goal.returns-else-is_empty
returns-else-is_empty g t c =
    let at = at_node c.self.inside.children.entries (ap levels_left c.in-Some.is
    ∙ c.split_first.ensures) c.self.invariant c.self.view_is in
    let child = c.in-Some-get_mut.child.now in
    let new = with_value child c.take-taken.new.self in
    let found = rw c.in-Some-get_mut.is at c.get_mut.ensures.value in
    let w = c.get_mut.follows.holds new in
    record {
      value = rw c.deref_mut.ensures.value at c.take-taken.ensures.value
          ∙ sym (found_step at (Some child) found);
      rest = take_kept at child new _ found
          (rw c.deref_mut.ensures.value at c.take-taken.ensures.rest) w.0;
      gone = count_take at child new _ _ _ found w.0
          (children_set at new _
          (some_from_not_empty _ c.is_empty.result (rw c.deref.ensures at c.is_empty.ensures)
          c.if-is_empty.false) w.0 w.4)
          (rw c.deref_mut.ensures.value at c.take-taken.ensures.gone);
    }
