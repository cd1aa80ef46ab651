use Rattle.std.proofs.Common.{◌≡◌, ◌++◌}
use Rattle.mq_world.specs.Lists.{Text}
use Rattle.mq_subscriptions.specs.Filters.{group_rows}
use Rattle.mq_subscriptions.specs.Turns.{next_by, turns_listed, turns_of}
use Rattle.mq_subscriptions.specs.Views.{texts}
use Rattle.mq_subscriptions.proofs.EntryTurnLemmas.{turns_left}
use Rattle.mq_subscriptions.proofs.subscriptions.share_groups.ShareGroups.gather_turns.Given as goal

abbrev pub invariant-loop-share : goal.invariant-loop-share
invariant-loop-share g l =
    (share : Text) → turns_listed share l.turns.items
    ++ turns_left (g.T.ClientTest.passes l.test) l.filter.value share
    (texts l.share-iterator) ≡ turns_listed share l.initial.turns.items
    ++ turns_of (next_by (g.T.ClientTest.passes l.test) (group_rows l.filter.value l.self)
    (record { share = share; filter = l.filter.value }))
