use Rattle.std.proofs.Common.{◌+◌, ◌++◌, map, length, ap, ◌∙◌, subst, Bor}
use Rattle.std.specs.Map.{keys_of}
use Rattle.mq_topic.specs.Levels.{levels}
use Rattle.mq_topic.specs.Matching.{matches}
use Rattle.mq_tree.specs.Below.{values_at}
use Rattle.mq_tree.specs.Entries.{Entries, AreInOrder}
use Rattle.mq_tree.specs.Nodes.{entries_of}
use Rattle.mq_topic.specs.Prefixes.{prefixes, met_by_filter}
use Rattle.mq_tree.proofs.Texts.{filter_hash_last}
use Rattle.mq_tree.proofs.tree.LevelTree.for_filter.Goals as goal

pub by_filter-requires : goal.by_filter-requires
by_filter-requires g c = rw c.text.ensures.text
    (filter_hash_last c.args.topic_filter.now c.text.ensures.valid)

pub returns-clause-found : goal.returns-clause-found
returns-clause-found g c =
    let text = c.text.result.now in
    c.in_ok-by_filter.ensures.found
    ∙ ap (λ xs. map (λ (x : Bor g.row.V.Denot). x.now) xs
    ++ values_at (matches (levels text)) (entries_of c.self.inside.root)) c.in_ok-found.ensures.items
    ∙ (λ i. values_at (matches (levels (c.text.ensures.text i))) (c.self.view_is i))

pub returns-clause-count : goal.returns-clause-count
returns-clause-count g c =
    c.in_ok-by_filter.ensures.count
    ∙ (λ i. c.steps.view_is i + length (met_by_filter (levels (c.text.ensures.text i))
    (prefixes (keys_of (c.self.view_is i)))))

pub returns-clause-ordered : goal.returns-clause-ordered
returns-clause-ordered g c =
    subst (λ (es : Entries g.row.V.Denot). AreInOrder es) c.self.view_is c.self.invariant.ordered

pub returns-in_err-by_filter-clause-ordered : goal.returns-in_err-by_filter-clause-ordered
returns-in_err-by_filter-clause-ordered g c =
    subst (λ (es : Entries g.row.V.Denot). AreInOrder es) c.self.view_is c.self.invariant.ordered
