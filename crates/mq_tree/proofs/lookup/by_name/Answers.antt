use Rattle.std.proofs.lemmas.Result.{on_ok_weaker}
use Rattle.std.proofs.Common.{◌∷◌, length, refl, sym, ap, ◌∙◌, arith}
use Rattle.std.specs.Map.{keys_of, values_of}
use Rattle.std.specs.List.{filter, list_any}
use Rattle.mq_topic.specs.Levels.{levels_left}
use Rattle.mq_topic.specs.Matching.{matches}
use Rattle.mq_tree.specs.Below.{matches_below, meets_name, values_at}
use Rattle.mq_tree.specs.Nodes.{entries_of}
use Rattle.mq_topic.specs.Prefixes.{heads, prefixes, met_by_name}
use Rattle.mq_tree.proofs.Levelwise.{found_some, found_none, met_some, met_none}
use Rattle.mq_tree.proofs.Roots.{shown_found, shown_met, hidden_step, hidden_met_step}
use Rattle.mq_tree.proofs.Roots.{no_key_matches}
use Rattle.mq_tree.proofs.Turns.{as_found, as_met, none_found}
use Rattle.mq_tree.proofs.lookup.by_name.Goals as goal

pub returns-then-not-begins_with_dollar : goal.returns-then-not-begins_with_dollar
returns-then-not-begins_with_dollar g c =
    let es = entries_of c.args.root.now in
    let n = c.split_first.result.0.now in
    let ns = levels_left c.split_first.result.1 in
    let key = c.split_first.ensures in
    let shown = sym c.begins_with_dollar.ensures ∙ c.if-not-begins_with_dollar.true in
    let found = ap (λ ls. values_of (filter (λ e. matches e.0 ls) es)) key
    ∙ shown_found n ns shown es ∙ ap (λ ls. values_at (λ k. matches_below k ls) es) (sym key) in
    let met = ap (λ ls. length (met_by_name ls (prefixes (keys_of es)))) key
    ∙ shown_met n ns shown (keys_of es)
    ∙ ap (λ ls. length (filter (meets_name ls) (prefixes (keys_of es)))) (sym key) in
    let given = c.below_by_name in
    record {
      found = as_found given.result _ _ _ _ found given.ensures.found;
      count = as_met given.result _ _ _ _ met given.ensures.count;
    }

pub returns-in-Some : goal.returns-in-Some
returns-in-Some g c =
    let root = c.args.root.now in
    let n = c.split_first.result.0.now in
    let ns = levels_left c.split_first.result.1 in
    let hidden = sym c.begins_with_dollar.ensures ∙ c.if-not-begins_with_dollar.false in
    let es = entries_of c.in-Some.child.now in
    let found = ap (λ ls. values_at (λ k. matches k ls) (entries_of root)) c.split_first.ensures
    ∙ found_some (λ k. matches k (n ∷ ns)) n (λ k. matches_below k ns) (hidden_step n hidden ns)
    root c.in-Some.ensures.children es (no_key_matches n ns) c.in-Some.ensures.found in
    let met = ap (λ ls. length (met_by_name ls (prefixes (keys_of (entries_of root)))))
    c.split_first.ensures
    ∙ met_some (λ p. list_any (λ h. matches p h) (heads (n ∷ ns))) n (meets_name ns)
    (hidden_met_step n hidden ns) root c.in-Some.ensures.children es refl c.in-Some.ensures.found
    in
    let given = c.below_by_name-in-Some in
    record {
      found = as_found given.result _ _ _ _ found given.ensures.found;
      count = on_ok_weaker given.result
          (λ e. omega (arith, e, met, c.in-Some.ensures.count)) given.ensures.count;
    }

pub returns-in-None : goal.returns-in-None
returns-in-None g c =
    let root = c.args.root.now in
    let n = c.split_first.result.0.now in
    let ns = levels_left c.split_first.result.1 in
    let hidden = sym c.begins_with_dollar.ensures ∙ c.if-not-begins_with_dollar.false in
    let found = ap (λ ls. values_at (λ k. matches k ls) (entries_of root)) c.split_first.ensures
    ∙ found_none (λ k. matches k (n ∷ ns)) n (λ k. matches_below k ns) (hidden_step n hidden ns)
    root c.in-None.ensures.children (no_key_matches n ns) c.in-None.ensures.found in
    let met = ap (λ ls. length (met_by_name ls (prefixes (keys_of (entries_of root)))))
    c.split_first.ensures
    ∙ met_none (λ p. list_any (λ h. matches p h) (heads (n ∷ ns))) n (meets_name ns)
    (hidden_met_step n hidden ns) root c.in-None.ensures.children refl c.in-None.ensures.found in
    record {
      found = none_found _ _ found;
      count = omega (arith, met, c.in-None.ensures.count);
    }
