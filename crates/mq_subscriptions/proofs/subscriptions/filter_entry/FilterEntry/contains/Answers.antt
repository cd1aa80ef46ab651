use Rattle.std.proofs.Common.{◌∙◌}
use Rattle.mq_subscriptions.specs.Views.{texts}
use Rattle.mq_subscriptions.proofs.EntryLemmas.{at-any-unshared, at-any-shared, unshared-any}
use Rattle.mq_subscriptions.proofs.subscriptions.filter_entry.FilterEntry.contains.Goals as goal

pub returns-in-None : goal.returns-in-None
returns-in-None c =
    let f = c.self.inside.filter.value in
    rw (← c.self.view_is, c.in-None.is) (c.contains_key.ensures
    ∙ unshared-any f c.args.client.now c.self.inside.unshared.entries
    ∙ at-any-unshared f c.args.client.now (texts c.self.inside.unshared.entries)
    c.self.inside.groups)

pub returns-in-Some : goal.returns-in-Some
returns-in-Some c =
    let f = c.self.inside.filter.value in
    rw (← c.self.view_is, c.in-Some.is) (c.contains.ensures f
    ∙ at-any-shared f c.args.client.now c.in-Some.share.now
    (texts c.self.inside.unshared.entries) c.self.inside.groups)
