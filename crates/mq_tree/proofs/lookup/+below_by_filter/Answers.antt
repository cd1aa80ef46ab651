use Rattle.std.proofs.Common.{◌≡◌, [], ◌≢◌, ◌∷◌, ◌++◌, map, length, Bor, refl, sym, ap, ◌∙◌, arith}
use Rattle.std.proofs.Common.{append-nil, ℕ, List}
use Rattle.std.proofs.lemmas.Result.{on_ok_weaker}
use Rattle.std.specs.Map.{keys_of}
use Rattle.std.specs.List.{filter, flat_map}
use Rattle.std.proofs.lemmas.Map.Iter.{rest_more, rest_all}
use Rattle.mq_topic.specs.Levels.{levels_left}
use Rattle.mq_tree.specs.Below.{hash, plus, matches_below, meets_filter, values_at, nodes_at, tally}
use Rattle.mq_tree.specs.Nodes.{entries_of, NodeView, Children}
use Rattle.mq_topic.specs.Prefixes.{prefixes}
use Rattle.mq_tree.proofs.Turns.{found_turn, text_is, text_is_not, text_is_same, text_differs}
use Rattle.mq_tree.proofs.Turns.{as_found, as_met, none_found}
use Rattle.mq_tree.proofs.Filters.{end_found, end_met, hash_ends, hash_found, hash_met, exact_step}
use Rattle.mq_tree.proofs.Filters.{exact_met_step, not_key, plus_found, plus_met, rest_hash_last}
use Rattle.mq_tree.proofs.Levelwise.{found_some, found_none, met_some, met_none}
use Rattle.mq_tree.proofs.lookup.+below_by_filter.Goals as goal

abbrev met : {V : Type 0} → NodeView V → List (List ℕ) → ℕ
met node ls = length (filter (meets_filter ls) (prefixes (keys_of (entries_of node))))

abbrev found : {V : Type 0} → NodeView V → List (List ℕ) → List V
found node ls = values_at (matches_below ls) (entries_of node)

pub returns-in_default : goal.returns-in_default
returns-in_default g t c =
    let node = c.args.node.now in
    let key = ap levels_left c.in_default.is in
    let none = ap (met node) key ∙ end_met (entries_of node) in
    record {
      found = as_found c.add_value.result _ _ _ _ (ap (found node) key ∙ end_found node)
          c.add_value.ensures;
      count = on_ok_weaker c.add_value.result (λ e. omega (arith, none)) c.add_value.ensures;
    }

pub returns-then-eq : goal.returns-then-eq
returns-then-eq g t c =
    let node = c.args.node.now in
    let whole = hash_ends (levels_left c.args.topic_filter) c.split_first.result.0.now
    (levels_left c.split_first.result.1) (ap levels_left c.in-Some.is ∙ c.split_first.ensures)
    c.requires (text_is c.eq.result c.split_first.result.0.now 35 c.eq.ensures c.if-eq.true) in
    record {
      found = as_found c.all.result _ _ _ _ (ap (found node) whole ∙ hash_found (entries_of node))
          c.all.ensures.found;
      count = as_met c.all.result _ _ _ _ (ap (met node) whole ∙ hash_met (entries_of node))
          c.all.ensures.count;
    }

pub returns-in-Some-child : goal.returns-in-Some-child
returns-in-Some-child g t c =
    let node = c.args.node.now in
    let level = c.split_first.result.0.now in
    let rest = levels_left c.split_first.result.1 in
    let key = ap levels_left c.in-Some.is ∙ c.split_first.ensures in
    let es = entries_of c.in-Some-child.child.now in
    let h : level ≢ hash = text_is_not c.eq.result level 35 c.eq.ensures c.if-eq.false in
    let q : level ≢ plus = text_differs c.ne.result level 43 c.ne.ensures c.if-ne.true in
    let all = ap (found node) key
    ∙ found_some (matches_below (level ∷ rest)) level (matches_below rest)
    (exact_step level rest h q) node c.in-Some-child.ensures.children es (not_key level rest h)
    c.in-Some-child.ensures.found in
    let every = ap (met node) key
    ∙ met_some (meets_filter (level ∷ rest)) level (meets_filter rest)
    (exact_met_step level rest h q) node c.in-Some-child.ensures.children es refl
    c.in-Some-child.ensures.found in
    let given = c.below_by_filter in
    record {
      found = as_found given.result _ _ _ _ all given.ensures.found;
      count = on_ok_weaker given.result
          (λ e. omega (arith, e, every, c.in-Some-child.ensures.count)) given.ensures.count;
    }

pub returns-in-None : goal.returns-in-None
returns-in-None g t c =
    let node = c.args.node.now in
    let level = c.split_first.result.0.now in
    let rest = levels_left c.split_first.result.1 in
    let key = ap levels_left c.in-Some.is ∙ c.split_first.ensures in
    let h : level ≢ hash = text_is_not c.eq.result level 35 c.eq.ensures c.if-eq.false in
    let q : level ≢ plus = text_differs c.ne.result level 43 c.ne.ensures c.if-ne.true in
    let all = ap (found node) key
    ∙ found_none (matches_below (level ∷ rest)) level (matches_below rest)
    (exact_step level rest h q) node c.in-None.ensures.children (not_key level rest h)
    c.in-None.ensures.found in
    let every = ap (met node) key
    ∙ met_none (meets_filter (level ∷ rest)) level (meets_filter rest)
    (exact_met_step level rest h q) node c.in-None.ensures.children refl c.in-None.ensures.found
    in
    record {
      found = none_found _ _ all;
      count = omega (arith, every, c.in-None.ensures.count);
    }

pub returns : goal.returns
returns g t c =
    let end : c.loop-child.child-iterator ≡ [] =
    rest_all (λ x. x) _ _ _ c.in-None-child.is c.next.ensures.steps in
    let node = c.args.node.now in
    let level = c.split_first.result.0.now in
    let rest = levels_left c.split_first.result.1 in
    let q : level ≡ plus = text_is_same c.ne.result level 43 c.ne.ensures c.if-ne.false in
    let key = ap levels_left c.in-Some.is ∙ c.split_first.ensures ∙ ap (λ l. l ∷ rest) q in
    let start = c.into_iter-child-iterator.ensures.into_iter_gives
    ∙ c.children-child-items.ensures.all in
    let values = λ (cs : Children g.row.V.Denot). flat_map
    (λ child. values_at (matches_below rest) child.1) cs in
    let nodes = λ (cs : Children g.row.V.Denot). tally
    (λ child. length (filter (meets_filter rest) (prefixes (keys_of child.1)))) cs in
    let every = ap (met node) key ∙ plus_met node rest c.children-child-items.ensures.children in
    let none = ap nodes end in
    let first = ap nodes start in
    let inv = c.loop-child.invariant.count in
    record {
      found = sym (append-nil _)
          ∙ ap (λ cs. map (λ (x : Bor g.row.V.Denot). x.now) c.loop-child.found.items
          ++ values cs) (sym end)
          ∙ c.loop-child.invariant.found
          ∙ ap (λ xs. map (λ (x : Bor g.row.V.Denot). x.now) c.args.found.now.items ++ xs)
          (ap values start ∙ sym (ap (found node) key ∙ plus_found node rest));
      count = omega (arith, none, first, every, inv);
    }

pub below_by_filter-requires : goal.below_by_filter-requires
below_by_filter-requires g t c =
    let rest = levels_left c.split_first.result.1 in
    let key = ap levels_left c.in-Some.is ∙ c.split_first.ensures in
    λ κs x. (omega (arith, ap length key), (x, rest_hash_last _ _ rest key c.requires))

pub loop-child-init : goal.loop-child-init
loop-child-init g t c = record {
  found = refl;
  count = refl;
  hash_last = rest_hash_last _ _ (levels_left c.split_first.result.1)
      (ap levels_left c.in-Some.is ∙ c.split_first.ensures) c.requires;
}

pub loop-child-preserved : goal.loop-child-preserved
loop-child-preserved g t c =
    let rest = levels_left c.split_first.result.1 in
    let child = c.in-Some-child-2.child in
    let e = rest_more (λ x. x) _ _ _ child c.in-Some-child-2.is c.next.ensures.steps in
    record {
      found = found_turn _ _ (values_at (matches_below rest) child.1) _ _
          (rw c.enter.ensures.entries at c.in_ok-below_by_filter.ensures.found)
          (rw e at c.loop-child.invariant.found);
      count = omega (
        arith,
        c.in_ok-below_by_filter.ensures.count,
        ap (nodes_at (meets_filter rest)) c.enter.ensures.entries,
        c.enter.ensures.count,
        ap (tally (λ child. length (filter (meets_filter rest) (prefixes (keys_of child.1))))) e,
        c.loop-child.invariant.count,
      );
      hash_last = c.loop-child.invariant.hash_last;
    }
