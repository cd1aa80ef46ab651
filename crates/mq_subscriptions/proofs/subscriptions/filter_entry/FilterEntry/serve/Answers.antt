use Rattle.std.proofs.Common.{refl, Some}
use Rattle.mq_world.specs.World.{Subscription}
use Rattle.mq_subscriptions.specs.Views.{texts}
use Rattle.mq_subscriptions.proofs.EntryLemmas.{at-edited_shared, keyed}
use Rattle.mq_subscriptions.proofs.InTurn.{turning}
use Rattle.mq_subscriptions.proofs.subscriptions.filter_entry.FilterEntry.serve.Goals as goal

pub returns-clause-turned : goal.returns-clause-turned
returns-clause-turned c =
    let f = c.self.inside.filter.value in
    let s : Subscription = keyed c.args.client.now (Some c.args.share.now) f in
    rw (← c.self.view_is) (at-edited_shared s (turning s) f
    c.args.share.now refl (texts c.self.inside.unshared.entries) c.self.inside.groups
    c.serve.new.self (c.serve.ensures f))
