use Rattle.std.proofs.Common.{◌≡◌, [], ◌++◌, map, length, Bor, sym, ap, ◌∙◌, arith, append-nil}
use Rattle.std.proofs.Common.{append_assoc}
use Rattle.std.specs.Map.{keys_of, values_of}
use Rattle.std.specs.List.{flat_map}
use Rattle.std.proofs.lemmas.Map.Iter.{rest_more, rest_all}
use Rattle.mq_tree.specs.Below.{tally}
use Rattle.mq_tree.specs.Nodes.{own, weight}
use Rattle.mq_topic.specs.Prefixes.{prefixes}
use Rattle.mq_tree.proofs.Turns.{found_turn}
use Rattle.mq_tree.proofs.Filters.{all_values, all_met, next_weighs_less}
use Rattle.mq_tree.proofs.lookup.+all.Goals as goal

pub all-requires : goal.all-requires
all-requires g t c =
    let e = rest_more (λ x. x) _ _ _ c.in-Some.child c.in-Some.is c.next.ensures.steps in
    let less = next_weighs_less _ _ _ _ e c.loop-child.invariant.live c.loop-child.invariant.low in
    λ κs x. (omega (arith, less.0, ap weight c.enter.ensures.entries), x)

pub loop-child-preserved : goal.loop-child-preserved
loop-child-preserved g t c =
    let e = rest_more (λ x. x) _ _ _ c.in-Some.child c.in-Some.is c.next.ensures.steps in
    let less = next_weighs_less _ _ _ _ e c.loop-child.invariant.live c.loop-child.invariant.low in
    record {
      found = found_turn _ _ (values_of c.in-Some.child.1) _ _
          (rw c.enter.ensures.entries at c.in_ok-all.ensures.found)
          (rw e at c.loop-child.invariant.found);
      count = omega (
        arith,
        c.in_ok-all.ensures.count,
        ap (λ es. length (prefixes (keys_of es))) c.enter.ensures.entries,
        c.enter.ensures.count,
        ap (tally (λ child. length (prefixes (keys_of child.1)))) e,
        c.loop-child.invariant.count,
      );
      low = less.1;
      live = less.2;
    }

pub returns-clause-found : goal.returns-clause-found
returns-clause-found g t c =
    let none : c.loop-child.child-iterator ≡ [] =
    rest_all (λ x. x) _ _ _ c.in-None.is c.next.ensures.steps in
    let node = c.args.node.now in
    sym (append-nil _)
    ∙ ap (λ cs. map (λ (x : Bor g.row.V.Denot). x.now) c.loop-child.found.items
    ++ flat_map (λ child. values_of child.1) cs) (sym none) ∙ c.loop-child.invariant.found
    ∙ ap (λ xs. xs ++ flat_map (λ child. values_of child.1) c.into_iter-child-iterator.result)
    c.in_ok-add_value.ensures
    ∙ append_assoc (map (λ (x : Bor g.row.V.Denot). x.now) c.args.found.now.items)
    (values_of (own node.0))
    (flat_map (λ child. values_of child.1) c.into_iter-child-iterator.result)
    ∙ ap (λ xs. map (λ (x : Bor g.row.V.Denot). x.now) c.args.found.now.items ++ xs)
    (ap (λ cs. values_of (own node.0) ++ flat_map (λ child. values_of child.1) cs)
    (c.into_iter-child-iterator.ensures.into_iter_gives ∙ c.children-child-items.ensures.all)
    ∙ sym (all_values node))

pub returns-clause-count : goal.returns-clause-count
returns-clause-count g t c =
    let end : c.loop-child.child-iterator ≡ [] =
    rest_all (λ x. x) _ _ _ c.in-None.is c.next.ensures.steps in
    let node = c.args.node.now in
    let none = ap (tally (λ child. length (prefixes (keys_of child.1)))) end in
    let start = ap (tally (λ child. length (prefixes (keys_of child.1))))
    (c.into_iter-child-iterator.ensures.into_iter_gives ∙ c.children-child-items.ensures.all) in
    let all = all_met node c.children-child-items.ensures.children in
    let inv = c.loop-child.invariant.count in
    omega (arith, none, start, all, inv)
