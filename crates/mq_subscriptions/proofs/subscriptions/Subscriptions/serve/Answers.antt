use Rattle.std.proofs.Common.{[], sym, Some}
use Rattle.mq_subscriptions.specs.Filters.{Entry, all_rows}
use Rattle.mq_subscriptions.proofs.AnyLemmas.{listed-turned}
use Rattle.mq_subscriptions.proofs.CountLemmas.{counted-turned}
use Rattle.mq_subscriptions.proofs.EntryLemmas.{keyed}
use Rattle.mq_subscriptions.proofs.KeyLemmas.{kept-keys}
use Rattle.mq_subscriptions.proofs.TreeLemmas.{tree-turned, tree-absent}
use Rattle.mq_subscriptions.proofs.InTurn.{turning, same-itself}
use Rattle.mq_subscriptions.proofs.subscriptions.Subscriptions.serve.Goals as goal

pub invariant_of-self-2 : goal.invariant_of-self-2
invariant_of-self-2 c =
    let f = c.args.topic_filter.now in
    let w : Entry = c.serve.new.self in
    let new = c.get_mut.follows.lender w in
    let turned = tree-turned f c.self.inside.tree c.self.invariant.listed.kept c.in-Some.at.now
    (rw c.in-Some.is at (sym c.get_mut.ensures.value)) w c.serve.ensures.filter
    c.serve.ensures.here new (rw c.in-Some.is at (c.get_mut.follows.holds w)) c.args.client.now
    (Some c.args.share.now) c.serve.ensures.turned in
    let x = keyed c.args.client.now (Some c.args.share.now) f in
    record {
      listed = listed-turned x c.self.inside.tree new c.self.inside.lists
          c.self.invariant.listed turned.0 turned.1;
      counted = counted-turned c.self.inside.count x (all_rows c.self.inside.tree) (all_rows new)
          turned.1 c.self.invariant.counted;
    }

pub returns : goal.returns
returns c =
    let w : Entry = c.serve.new.self in
    let new = c.get_mut.follows.lender w in
    let turned = tree-turned c.args.topic_filter.now c.self.inside.tree c.self.invariant.listed.kept
    c.in-Some.at.now (rw c.in-Some.is at (sym c.get_mut.ensures.value)) w c.serve.ensures.filter
    c.serve.ensures.here new (rw c.in-Some.is at (c.get_mut.follows.holds w)) c.args.client.now
    (Some c.args.share.now) c.serve.ensures.turned in
    record { rows = rw (← c.self.view_is) turned.1; keys = kept-keys new turned.0 }

pub returns-in_default : goal.returns-in_default
returns-in_default c =
    let f = c.args.topic_filter.now in
    let client = c.args.client.now in
    let share = Some c.args.share.now in
    let none = rw c.in_default.is at (sym c.get_mut.ensures.value) in
    record {
      rows = rw (c.get_mut.follows.holds-at-none, ← c.self.view_is)
          (tree-absent f c.self.inside.tree c.self.invariant.listed.kept none client share
          (turning (keyed client share f)) (same-itself []));
      keys = rw c.get_mut.follows.holds-at-none
          (kept-keys c.self.inside.tree c.self.invariant.listed.kept);
    }
