use Rattle.std.proofs.Common.{refl, None, Some}
use Rattle.std.specs.Rc.{rc_str_bytes}
use Rattle.std.proofs.lemmas.Result.{on_ok_weaker}
use Rattle.mq_world.specs.World.{Subscription}
use Rattle.mq_subscriptions.specs.Filters.{row}
use Rattle.mq_subscriptions.specs.Views.{texts}
use Rattle.mq_subscriptions.proofs.EntryLemmas.{at-edited, at-edited_shared, unshared-joined}
use Rattle.mq_subscriptions.proofs.EntryLemmas.{is_here}
use Rattle.mq_subscriptions.proofs.InTurn.{joining}
use Rattle.mq_subscriptions.proofs.subscriptions.filter_entry.FilterEntry.insert.Goals as goal

pub returns-in_ok-insert-in-None-clause-ok : goal.returns-in_ok-insert-in-None-clause-ok
returns-in_ok-insert-in-None-clause-ok c =
    let f = c.self.inside.filter.value in
    let s : Subscription = row None f (rc_str_bytes c.args.client, c.args.options) in
    rw (← c.self.view_is, c.in-None.is) (at-edited s (joining s) f refl
    (texts c.self.inside.unshared.entries) (texts c.insert.new.self.entries) c.self.inside.groups
    (unshared-joined f c.args.client c.args.options c.self.inside.unshared.entries
    c.len-count.ensures.ordered c.insert.new.self.entries c.in_ok-insert-in-None.ensures.entries))

pub returns-in-Some-clause-ok : goal.returns-in-Some-clause-ok
returns-in-Some-clause-ok c =
    let f = c.self.inside.filter.value in
    let share = c.in-Some.share.now in
    let s : Subscription = row (Some share) f (rc_str_bytes c.args.client, c.args.options) in
    rw (← c.self.view_is, c.in-Some.is) (on_ok_weaker c.insert-in-Some.result
    (λ e. at-edited_shared s (joining s) f share refl
    (texts c.self.inside.unshared.entries) c.self.inside.groups c.insert-in-Some.new.self (e f))
    c.insert-in-Some.ensures.ok)

pub returns-in_ok-insert-in-None-clause-here : goal.returns-in_ok-insert-in-None-clause-here
returns-in_ok-insert-in-None-clause-here c =
    is_here c.self.inside.filter.value (texts c.insert.new.self.entries) c.self.inside.groups _ refl

pub returns-in_err-insert-in-None-clause-here : goal.returns-in_err-insert-in-None-clause-here
returns-in_err-insert-in-None-clause-here c =
    is_here c.self.inside.filter.value (texts c.insert.new.self.entries) c.self.inside.groups _ refl

pub returns-in-Some-clause-here : goal.returns-in-Some-clause-here
returns-in-Some-clause-here c =
    is_here c.self.inside.filter.value (texts c.self.inside.unshared.entries)
    c.insert-in-Some.new.self _ refl
