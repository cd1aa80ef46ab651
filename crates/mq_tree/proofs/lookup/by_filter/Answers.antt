use Rattle.std.proofs.Common.{◌≢◌, [], ◌∷◌, length, refl, sym, ap, ◌∙◌}
use Rattle.std.specs.Map.{keys_of, values_of}
use Rattle.std.specs.List.{filter, list_any}
use Rattle.mq_topic.specs.Levels.{levels, levels_left}
use Rattle.mq_topic.specs.Matching.{matches}
use Rattle.mq_tree.specs.Below.{hash, plus, matches_below, meets_filter, values_at}
use Rattle.mq_tree.specs.Nodes.{entries_of}
use Rattle.mq_topic.specs.Prefixes.{heads, prefixes, met_by_filter}
use Rattle.mq_tree.proofs.Turns.{text_is, text_is_not, as_found, as_met}
use Rattle.mq_tree.proofs.Filters.{hash_ends}
use Rattle.mq_tree.proofs.Roots.{hash_step, hash_met_step, plus_step, plus_met_step, under_found}
use Rattle.mq_tree.proofs.Roots.{under_met, plain_found, plain_met, found_under, met_under}
use Rattle.mq_tree.proofs.lookup.by_filter.Goals as goal

pub returns-then-eq : goal.returns-then-eq
returns-then-eq g c =
    let root = c.args.root.now in
    let whole = hash_ends (levels c.args.topic_filter.now) c.split_first.result.0.now
    (levels_left c.split_first.result.1) c.split_first.ensures c.requires
    (text_is c.eq.result c.split_first.result.0.now 35 c.eq.ensures c.if-eq.true) in
    let found = ap (λ ls. values_at (matches ls) (entries_of root)) whole
    ∙ under_found (matches (hash ∷ [])) (matches_below (hash ∷ [])) hash_step root refl
    ∙ ap (found_under root) (sym whole) in
    let met = ap (λ ls. length (met_by_filter ls (prefixes (keys_of (entries_of root))))) whole
    ∙ under_met (λ p. list_any (λ g. matches g p) (heads (hash ∷ []))) (meets_filter (hash ∷ []))
    hash_met_step root c.shown_by_filter.ensures.children refl
    ∙ ap (met_under root) (sym whole) in
    let given = c.shown_by_filter in
    record {
      found = as_found given.result _ _ _ _ found given.ensures.found;
      count = as_met given.result _ _ _ _ met given.ensures.count;
    }

pub returns-then-eq-2 : goal.returns-then-eq-2
returns-then-eq-2 g c =
    let root = c.args.root.now in
    let fs = levels_left c.split_first.result.1 in
    let whole = c.split_first.ensures
    ∙ ap (λ l. l ∷ fs) (text_is c.eq-2.result c.split_first.result.0.now 43 c.eq-2.ensures
    c.if-eq-2.true) in
    let found = ap (λ ls. values_at (matches ls) (entries_of root)) whole
    ∙ under_found (matches (plus ∷ fs)) (matches_below fs) (plus_step fs) root refl in
    let met = ap (λ ls. length (met_by_filter ls (prefixes (keys_of (entries_of root))))) whole
    ∙ under_met (λ p. list_any (λ g. matches g p) (heads (plus ∷ fs))) (meets_filter fs)
    (plus_met_step fs) root c.shown_by_filter-then-eq-2.ensures.children refl in
    let given = c.shown_by_filter-then-eq-2 in
    record {
      found = as_found given.result _ _ _ _ found given.ensures.found;
      count = as_met given.result _ _ _ _ met given.ensures.count;
    }

pub returns : goal.returns
returns g c =
    let es = entries_of c.args.root.now in
    let f = c.split_first.result.0.now in
    let fs = levels_left c.split_first.result.1 in
    let key = c.split_first.ensures in
    let h : f ≢ hash = text_is_not c.eq.result f 35 c.eq.ensures c.if-eq.false in
    let q : f ≢ plus = text_is_not c.eq-2.result f 43 c.eq-2.ensures c.if-eq-2.false in
    let found = ap (λ ls. values_of (filter (λ e. matches ls e.0) es)) key
    ∙ plain_found f fs h q es ∙ ap (λ ls. values_at (matches_below ls) es) (sym key) in
    let met = ap (λ ls. length (met_by_filter ls (prefixes (keys_of es)))) key
    ∙ plain_met f fs h q (keys_of es)
    ∙ ap (λ ls. length (filter (meets_filter ls) (prefixes (keys_of es)))) (sym key) in
    let given = c.below_by_filter in
    record {
      found = as_found given.result _ _ _ _ found given.ensures.found;
      count = as_met given.result _ _ _ _ met given.ensures.count;
    }
