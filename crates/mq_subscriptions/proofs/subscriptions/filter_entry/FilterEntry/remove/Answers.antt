use Rattle.std.proofs.Common.{refl, None, Some}
use Rattle.mq_world.specs.World.{Subscription}
use Rattle.mq_subscriptions.specs.Views.{texts}
use Rattle.mq_subscriptions.proofs.EntryLemmas.{at-edited, at-edited_shared, unshared-left, keyed}
use Rattle.mq_subscriptions.proofs.InTurn.{leaving}
use Rattle.mq_subscriptions.proofs.subscriptions.filter_entry.FilterEntry.remove.Goals as goal

pub returns-in-None-clause-rows : goal.returns-in-None-clause-rows
returns-in-None-clause-rows c =
    let f = c.self.inside.filter.value in
    let s : Subscription = keyed c.args.client.now None f in
    rw (← c.self.view_is, c.in-None.is) (at-edited s (leaving s) f refl
    (texts c.self.inside.unshared.entries) (texts c.remove.new.self.entries) c.self.inside.groups
    (unshared-left f c.args.client.now c.self.inside.unshared.entries c.remove.new.self.entries
    c.len-count.ensures.ordered c.remove.ensures.entries))

pub returns-in-Some-clause-rows : goal.returns-in-Some-clause-rows
returns-in-Some-clause-rows c =
    let f = c.self.inside.filter.value in
    let s : Subscription = keyed c.args.client.now (Some c.in-Some.share.now) f in
    rw (← c.self.view_is, c.in-Some.is) (at-edited_shared s (leaving s) f c.in-Some.share.now refl
    (texts c.self.inside.unshared.entries) c.self.inside.groups c.remove-in-Some.new.self
    (c.remove-in-Some.ensures f))
