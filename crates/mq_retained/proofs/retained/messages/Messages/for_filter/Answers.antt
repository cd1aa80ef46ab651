use Rattle.std.proofs.Common.{◌≡◌, subst, map}
use Rattle.std.specs.Prelude.{IfOk}
use Rattle.std.specs.List.{filter}
use Rattle.std.specs.Map.{values_of}
use Rattle.mq_topic.specs.Levels.{levels}
use Rattle.mq_topic.specs.Matching.{matches}
use Rattle.mq_tree.specs.Entries.{Entries}
use Rattle.mq_retained.specs.declared.retained.stored.Stored.{Stored}
use Rattle.mq_retained.proofs.retained.messages.Messages.for_filter.Goals as goal

pub returns-clause-found : goal.returns-clause-found
returns-clause-found c =
    subst (λ (tree : Entries Stored). IfOk c.for_filter.result
    (λ found. map (λ v. v.now) found.items
    ≡ values_of (filter (λ e. matches (levels c.args.topic_filter.now) e.0) tree))) c.self.view_is
    c.for_filter.ensures.found
