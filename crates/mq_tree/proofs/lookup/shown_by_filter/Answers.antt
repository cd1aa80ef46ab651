use Rattle.std.proofs.Common.{◌≡◌, ℕ, false, not, cond, List, ◌∷◌, length, sym, ap, ◌∙◌, arith}
use Rattle.std.specs.Map.{keys_of}
use Rattle.std.specs.List.{filter}
use Rattle.std.proofs.lemmas.Map.Iter.{rest_more}
use Rattle.mq_topic.specs.Levels.{levels_left}
use Rattle.mq_tree.specs.Below.{begins_with_dollar, plain_children, matches_below, meets_filter}
use Rattle.mq_tree.specs.Below.{values_at, nodes_at, tally}
use Rattle.mq_tree.specs.Entries.{Entries}
use Rattle.mq_tree.specs.Nodes.{Children}
use Rattle.mq_topic.specs.Prefixes.{prefixes}
use Rattle.mq_tree.proofs.Turns.{found_turn}
use Rattle.mq_tree.proofs.lookup.shown_by_filter.Goals as goal

-- a child that is shown comes first of those that are
kept : {V : Type 0} → (child : List ℕ × Entries V) (all cs : Children V) → all ≡ child ∷ cs
    → begins_with_dollar child.0 ≡ false → plain_children all ≡ child ∷ plain_children cs
kept child all cs e h = ap plain_children e
    ∙ ap (λ b. cond (not b) (child ∷ plain_children cs) (plain_children cs)) h

pub loop-child-preserved : goal.loop-child-preserved
loop-child-preserved g c =
    let rest = levels_left c.args.topic_filter in
    let child = c.in-Some.child in
    let shown = ap begins_with_dollar (sym c.level.ensures) ∙ sym c.begins_with_dollar.ensures
    ∙ c.if-begins_with_dollar.false in
    let e = kept child _ _ (rest_more (λ x. x) _ _ _ child c.in-Some.is c.next.ensures.steps)
    shown in
    record {
      found = found_turn _ _ (values_at (matches_below rest) child.1) _ _
          (rw c.enter.ensures.entries at c.in_ok-below_by_filter.ensures.found)
          (rw e at c.loop-child.invariant.found);
      count = omega (
        arith,
        c.in_ok-below_by_filter.ensures.count,
        ap (nodes_at (meets_filter rest)) c.enter.ensures.entries,
        c.enter.ensures.count,
        ap (tally (λ child. length (filter (meets_filter rest) (prefixes (keys_of child.1))))) e,
        c.loop-child.invariant.count,
      );
      hash_last = c.loop-child.invariant.hash_last;
    }
