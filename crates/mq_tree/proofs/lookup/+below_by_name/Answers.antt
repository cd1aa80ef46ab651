use Rattle.std.proofs.Common.{ℕ, List, ◌≡◌, ◌≢◌, ◌+◌, Some, None, [], ◌++◌, map, length, get_or}
use Rattle.std.proofs.Common.{Bor, Vec, Global, refl, sym, ap, ◌∙◌, arith, append-nil, append_assoc}
use Rattle.std.proofs.lemmas.Result.{on_ok_weaker}
use Rattle.std.specs.List.{flat_map}
use Rattle.mq_topic.specs.Levels.{levels_left}
use Rattle.mq_tree.specs.Below.{hash, matches_below, meets_name, values_at, tally, plus, is_before}
use Rattle.mq_tree.specs.Below.{nodes_at}
use Rattle.mq_tree.specs.Nodes.{entries_of}
use Rattle.mq_tree.proofs.Children.{gather, one}
use Rattle.mq_tree.proofs.Turns.{found_at, met_at, found_hash, found_other, met_hash, met_other}
use Rattle.mq_tree.proofs.Turns.{found_all, met_all, turn, all_given, found_turn, text_is}
use Rattle.mq_tree.proofs.Turns.{text_is_not, plain_cons, three, found_empty, met_empty, found_late}
use Rattle.mq_tree.proofs.Turns.{met_late, found_in, met_in, plus_of, plus_there, plus_absent}
use Rattle.mq_tree.proofs.Turns.{IsLate, none_found}
use Rattle.std.specs.Str.{bytes_eq}
use Rattle.mq_tree.proofs.lookup.+below_by_name.Goals.{After-child-arg-1, else-eq}
use Rattle.mq_tree.proofs.lookup.+below_by_name.Goals.{then-eq+in_ok-below_by_name}
use Rattle.mq_tree.proofs.lookup.+below_by_name.Given.{Over}
use Rattle.mq_tree.proofs.lookup.+below_by_name.Goals as goal

abbrev no_level : Bor (List ℕ)
no_level = record { ref_ptr = (0, 0); now = [] }

pub loop-candidate-preserved-in_default-child-2 : goal.loop-candidate-preserved-in_default-child-2
loop-candidate-preserved-in_default-child-2 g t c =
    let rest = levels_left c.split_first.result.1 in
    let items = c.in_order-candidate-items.result in
    let next = turn c.args.node.now.1 items c.loop-candidate.candidate-index no_level None
    (omega arith) c.in_default-child-2.ensures.found in
    record {
      found = rw next at c.loop-candidate.invariant.found;
      count = omega (
        arith,
        c.in_default-child-2.ensures.count,
        ap (tally (met_at rest)) next,
        c.loop-candidate.invariant.count,
      );
      plain = c.loop-candidate.invariant.plain;
    }

pub loop-candidate-preserved-then-eq-2 : goal.loop-candidate-preserved-then-eq-2
loop-candidate-preserved-then-eq-2 g t c =
    let rest = levels_left c.split_first.result.1 in
    let items = c.in_order-candidate-items.result in
    let child = c.in-Some-child-2.child.now in
    let text = (get_or items c.loop-candidate.candidate-index no_level).now in
    let next = turn c.args.node.now.1 items c.loop-candidate.candidate-index no_level
    (Some (entries_of child)) (omega arith) c.in-Some-child-2.ensures.found in
    let h : text ≡ hash = text_is c.eq-in-loop-candidate.result text 35
    c.eq-in-loop-candidate.ensures c.if-eq-2.true in
    record {
      found = found_turn _ _ (found_at rest (text, entries_of child)) _ _
          (rw (← found_hash rest text child h) at c.in_ok-add_value.ensures)
          (rw next at c.loop-candidate.invariant.found);
      count = omega (
        arith,
        c.in-Some-child-2.ensures.count,
        ap (tally (met_at rest)) next,
        met_hash rest text (entries_of child) h,
        c.loop-candidate.invariant.count,
      );
      plain = c.loop-candidate.invariant.plain;
    }

pub loop-candidate-preserved : goal.loop-candidate-preserved
loop-candidate-preserved g t c =
    let rest = levels_left c.split_first.result.1 in
    let items = c.in_order-candidate-items.result in
    let child = c.in-Some-child-2.child.now in
    let text = (get_or items c.loop-candidate.candidate-index no_level).now in
    let next = turn c.args.node.now.1 items c.loop-candidate.candidate-index no_level
    (Some (entries_of child)) (omega arith) c.in-Some-child-2.ensures.found in
    let h : text ≢ hash = text_is_not c.eq-in-loop-candidate.result text 35
    c.eq-in-loop-candidate.ensures c.if-eq-2.false in
    record {
      found = found_turn _ _ (found_at rest (text, entries_of child)) _ _
          (rw (← found_other rest text (entries_of child) h)
          at c.in_ok-below_by_name-2.ensures.found)
          (rw next at c.loop-candidate.invariant.found);
      count = omega (
        arith,
        c.in-Some-child-2.ensures.count,
        c.in_ok-below_by_name-2.ensures.count,
        ap (tally (met_at rest)) next,
        met_other rest text (entries_of child) h,
        c.loop-candidate.invariant.count,
      );
      plain = c.loop-candidate.invariant.plain;
    }

pub loop-candidate-init : goal.loop-candidate-init
loop-candidate-init g t c =
    let key = ap levels_left c.in-Some.is ∙ c.split_first.ensures in
    record { found = refl; count = refl; plain = (plain_cons _ _ _ key c.requires).1 }

pub returns-in_default-first : goal.returns-in_default-first
returns-in_default-first g t c =
    let node = c.args.node.now in
    let key = ap levels_left c.in-Some.is ∙ c.split_first.ensures in
    let p = plain_cons _ _ _ key c.requires in
    let empty = sym c.first.ensures.first ∙ c.in_default-first.is in
    let found = ap (λ ls. values_at (λ k. matches_below k ls) (entries_of node)) key
    ∙ found_empty node c.first.ensures.children empty _ _ p.0 in
    let count = ap (λ ls. nodes_at (meets_name ls) (entries_of node)) key
    ∙ met_empty node c.first.ensures.children empty _ _ p.0 in
    record {
      found = none_found _ _ found;
      count = omega (arith, count);
    }

-- where no level comes before `+`: how it is so, and what a `+` that comes first has given
late : (g : Over) (t : ℕ) (c : After-child-arg-1 g t)
    → IsLate c.args.node.now c.in-Some-first.first (levels_left c.args.name)
    c.split_first.result.0.now (levels_left c.split_first.result.1)
    × (map (λ (x : Bor g.row.V.Denot). x.now) c.if-eq.found.items
    ≡ map (λ (x : Bor g.row.V.Denot). x.now) c.args.found.now.items
    ++ found_in (levels_left c.split_first.result.1) (plus_of c.in-Some-first.first))
    × (c.if-eq.steps ≡ c.args.steps.now
    + met_in (levels_left c.split_first.result.1) (plus_of c.in-Some-first.first))
late g t c =
    let first = c.in-Some-first.first in
    let rest = levels_left c.split_first.result.1 in
    let key = ap levels_left c.in-Some.is ∙ c.split_first.ensures in
    let is_plus : c.eq.result ≡ bytes_eq first.0 plus = c.eq.ensures
    ∙ ap (λ l. bytes_eq l plus) c.level-then-not-comes_before_plus-2.ensures in
    let out = map (λ (x : Bor g.row.V.Denot). x.now) c.args.found.now.items in
    let both : (map (λ (x : Bor g.row.V.Denot). x.now) c.if-eq.found.items ≡ out
    ++ found_in rest (plus_of first)) × (c.if-eq.steps ≡ c.args.steps.now
    + met_in rest (plus_of first)) =
    elim c.if-eq.branch [
      | then-eq+in_ok-below_by_name w ↦
          let there = plus_there rest first _ _ is_plus w.if-eq.true w.enter.ensures.entries in (
            ap (λ (v : Vec (Bor g.row.V.Denot) Global). map (λ (x : Bor g.row.V.Denot). x.now)
                v.items) w.found-is ∙ w.in_ok-below_by_name.ensures.found
                ∙ ap (λ xs. out ++ xs) (sym there.0),
            omega (
              arith,
              w.steps-is,
              w.in_ok-below_by_name.ensures.count,
              w.enter.ensures.count,
              there.1,
            ),
          )
      | else-eq w ↦
          let absent = plus_absent rest first _ is_plus w.if-eq.false in (
            ap (λ (v : Vec (Bor g.row.V.Denot) Global). map (λ (x : Bor g.row.V.Denot). x.now)
                v.items) w.found-is ∙ none_found _ _ absent.0,
            omega (arith, w.steps-is, absent.1),
          )
    ] in (
      record {
        are = c.first.ensures.children;
        is_first = sym c.in-Some-first.ensures.first;
        key = key;
        plain = (plain_cons _ _ _ key c.requires).0;
        low = ap (λ l. is_before l plus) (sym c.level.ensures) ∙ sym c.comes_before_plus.ensures
            ∙ c.if-not-comes_before_plus.true;
        last = sym c.comes_before_plus-then-not-comes_before_plus.ensures
            ∙ c.if-not-comes_before_plus-2.true;
      },
      both.0,
      both.1,
    )

pub returns-in_default-child : goal.returns-in_default-child
returns-in_default-child g t c =
    let known = late g t (goal.at.returns-in_default-child g t c).After-child-arg-1 in
    let out = map (λ (x : Bor g.row.V.Denot). x.now) c.args.found.now.items in
    let all = found_late known.0 None c.in_default-child.ensures.found in
    let met = met_late known.0 None c.in_default-child.ensures.found in
    record {
      found = known.1 ∙ ap (λ xs. out ++ xs) (sym (append-nil _) ∙ sym all);
      count = omega (arith, known.2, c.in_default-child.ensures.count, met);
    }

pub returns-then-not-comes_before_plus-2 : goal.returns-then-not-comes_before_plus-2
returns-then-not-comes_before_plus-2 g t c =
    let known = late g t (goal.at.returns-then-not-comes_before_plus-2 g t c).After-child-arg-1 in
    let first = c.in-Some-first.first in
    let rest = levels_left c.split_first.result.1 in
    let out = map (λ (x : Bor g.row.V.Denot). x.now) c.args.found.now.items in
    let es = entries_of c.in-Some-child.exact.now in
    let all = found_late known.0 (Some es) c.in-Some-child.ensures.found in
    let met = met_late known.0 (Some es) c.in-Some-child.ensures.found in
    let given = c.below_by_name-then-not-comes_before_plus-2 in
    record {
      found = on_ok_weaker given.result
          (λ e. e ∙ ap (λ xs. xs ++ found_in rest (Some es)) known.1
          ∙ append_assoc out (found_in rest (plus_of first)) (found_in rest (Some es))
          ∙ ap (λ xs. out ++ xs) (sym all)) given.ensures.found;
      count = on_ok_weaker given.result
          (λ e. omega (arith, e, known.2, c.in-Some-child.ensures.count, met))
          given.ensures.count;
    }

pub returns : goal.returns
returns g t c =
    let node = c.args.node.now in
    let level = c.split_first.result.0.now in
    let rest = levels_left c.split_first.result.1 in
    let items = c.in_order-candidate-items.result in
    let key = ap levels_left c.in-Some.is ∙ c.split_first.ensures in
    let p = plain_cons _ _ _ key c.requires in
    let n = three level items c.in_order-candidate-items.ensures in
    let found = ap (λ ls. values_at (λ k. matches_below k ls) (entries_of node)) key
    ∙ found_all node c.in-Some-first.ensures.children level rest p.0
    ∙ ap (λ ts. flat_map (found_at rest) (gather one node.1 ts))
    (sym c.in_order-candidate-items.ensures) in
    let met = ap (λ ls. nodes_at (meets_name ls) (entries_of node)) key
    ∙ met_all node c.in-Some-first.ensures.children level rest p.0
    ∙ ap (λ ts. tally (met_at rest) (gather one node.1 ts))
    (sym c.in_order-candidate-items.ensures) in
    let end = all_given node.1 items c.loop-candidate.candidate-index (omega arith) in
    let none = ap (tally (met_at rest)) end in
    let inv = c.loop-candidate.invariant.count in
    record {
      found = sym (append-nil _) ∙ rw end at c.loop-candidate.invariant.found
          ∙ ap (λ xs. map (λ (x : Bor g.row.V.Denot). x.now) c.args.found.now.items ++ xs)
          (sym found);
      count = omega (arith, none, met, inv);
    }

pub below_by_name-requires : goal.below_by_name-requires
below_by_name-requires g t c =
    let key = ap levels_left c.in-Some.is ∙ c.split_first.ensures in
    λ κs x. (omega (arith, ap length key), (x, (plain_cons _ _ _ key c.requires).1))

pub below_by_name-requires-then-not-comes_before_plus-2 :
    goal.below_by_name-requires-then-not-comes_before_plus-2
below_by_name-requires-then-not-comes_before_plus-2 g t c =
    let key = ap levels_left c.in-Some.is ∙ c.split_first.ensures in
    λ κs x. (omega (arith, ap length key), (x, (plain_cons _ _ _ key c.requires).1))

pub below_by_name-requires-in-loop-candidate : goal.below_by_name-requires-in-loop-candidate
below_by_name-requires-in-loop-candidate g t c =
    let key = ap levels_left c.in-Some.is ∙ c.split_first.ensures in
    λ κs x. (omega (arith, ap length key), (x, (plain_cons _ _ _ key c.requires).1))
