use Rattle.std.proofs.Common.{List, sym, ap, ◌∙◌}
use Rattle.std.proofs.lemmas.List.Concat.{length-flat_map}
use Rattle.mq_topic.specs.Prefixes.{capped}
use Rattle.mq_world.specs.Lists.{Text}
use Rattle.mq_subscriptions.specs.Filters.{Entry}
use Rattle.mq_subscriptions.proofs.subscriptions.tree_edits.one_less.Goals as goal

pub returns : goal.returns
returns c =
    c.total.ensures
    ∙ ap capped (sym (length-flat_map (λ (e : List Text × Entry). e.1.rows) c.args.rest.now))
