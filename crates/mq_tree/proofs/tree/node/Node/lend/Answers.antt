use Rattle.std.proofs.Common.{◌≢◌, [], ◌++◌, Some, None, inl, inr, refl, sym, ap, ◌∙◌, subst}
use Rattle.std.specs.Box.{with_value}
use Rattle.mq_topic.specs.Levels.{levels_left}
use Rattle.mq_tree.specs.Nodes.{NodeView, own, below, entries_of, entries_in, children_of}
use Rattle.mq_tree.specs.Nodes.{AreChildren}
use Rattle.mq_tree.proofs.Children.{lookup-here}
use Rattle.mq_tree.proofs.Edits.{insert-here}
use Rattle.mq_tree.proofs.Descents.{at_node, found_step, put_same, some_child, children_set}
use Rattle.mq_tree.proofs.Descents.{set-here, some_cons, on_some_weaker, lent_kept, lent_some}
use Rattle.mq_tree.proofs.Descents.{lent_put}
use Rattle.mq_tree.proofs.tree.node.Node.lend.Goals as goal

pub returns-in_default : goal.returns-in_default
returns-in_default g c =
    let children = children_of c.self.inside.children.entries in (
      (
        refl,
        λ w. (
          rw (c.in_default.is, ← c.self.view_is)
              (set-here w c.as_mut.result c.self.inside.value children c.as_mut.ensures.value),
          λ n. some_cons _ _,
          inl (rw (c.in_default.is, ← c.self.view_is)
              (sym (insert-here w c.self.inside.value children))),
        ),
        ap entries_of c.self.view_is,
      ),
      record {
        writes_back = tt;
        value =
            rw (c.in_default.is, ← c.self.view_is)
            (c.as_mut.ensures.value ∙ sym (lookup-here c.self.inside.value children));
      },
    )

pub invariant_of-self-lent-in-Some-get_mut : goal.invariant_of-self-lent-in-Some-get_mut
invariant_of-self-lent-in-Some-get_mut g c =
    let at = at_node c.self.inside.children.entries (ap levels_left c.in-Some.is
    ∙ c.split_first.ensures) c.self.invariant c.self.view_is in
    let child = c.in-Some-get_mut.child.now in
    let found = rw c.in-Some-get_mut.is at c.get_mut.ensures.value in
    let kept : (new : NodeView g.row.V.Denot) → entries_of new ≢ []
    → AreChildren (children_of (c.get_mut.follows.lender (with_value child new)).entries) =
    λ new n. children_set at (with_value child new) _ n
    (c.get_mut.follows.holds (with_value child new)).0
    (c.get_mut.follows.holds (with_value child new)).4 in
    let some : entries_of c.deref_mut.result.now ≢ [] =
    rw c.deref_mut.ensures.value (some_child at child found) in
    λ r. (
      λ w. kept (c.descend.follows.lender w) ((c.descend.follows.holds w).1 some),
      kept c.descend.follows.lender-at-none
          (subst (λ xs. xs ≢ []) (sym c.descend.follows.holds-at-none) some),
    )

pub returns-in-Some-get_mut : goal.returns-in-Some-get_mut
returns-in-Some-get_mut g c =
    let at = at_node c.self.inside.children.entries (ap levels_left c.in-Some.is
    ∙ c.split_first.ensures) c.self.invariant c.self.view_is in
    let child = c.in-Some-get_mut.child.now in
    let found = rw c.in-Some-get_mut.is at c.get_mut.ensures.value in
    let same = c.deref_mut.ensures.value in
    let some : entries_in child ≢ [] = some_child at child found in
    let new = λ (w : g.row.V.Denot). with_value child (c.descend.follows.lender w) in
    let holds = λ (w : g.row.V.Denot). rw same at c.descend.follows.holds w in
    let none = with_value child c.descend.follows.lender-at-none in (
      (
        refl,
        λ w. (
          on_some_weaker c.descend.result
              (λ e. lent_kept at child (new w) w _ found e
              (c.get_mut.follows.holds (new w)).0) (holds w).0,
          λ n. lent_some at child (new w) _ found ((holds w).1 some)
              (c.get_mut.follows.holds (new w)).0,
          lent_put at child (new w) w _ found (holds w).2
              (c.get_mut.follows.holds (new w)).0,
        ),
        put_same at child none _ found (rw same at c.descend.follows.holds-at-none)
            (c.get_mut.follows.holds none).0,
      ),
      record {
        writes_back = tt;
        value = rw same at c.descend.ensures.value
            ∙ sym (found_step at (Some child) found);
      },
    )

pub returns-in-None : goal.returns-in-None
returns-in-None g c =
    let at = at_node c.self.inside.children.entries (ap levels_left c.in-Some.is
    ∙ c.split_first.ensures) c.self.invariant c.self.view_is in
    let found = rw c.in-None.is at c.get_mut.ensures.value in
    let same = ap (λ m. own c.self.inside.value ++ below (children_of m.entries))
    c.get_mut.follows.holds-at-none ∙ ap entries_of c.self.view_is in (
      (refl, λ w. (tt, λ n. subst (λ xs. xs ≢ []) (sym same) n, inr same), same),
      record { writes_back = tt; value = sym (found_step at None found) },
    )
