use Rattle.std.proofs.Common.{◌≡◌, map, take}
use Rattle.mq_world.specs.Lists.{Text}
use Rattle.mq_subscriptions.specs.Turns.{turns_listed}
use Rattle.mq_router.specs.delivery.Copies.{turns_at}
use Rattle.mq_router.proofs.delivery.members_served.Given as goal

abbrev pub invariant-loop-at : goal.invariant-loop-at
invariant-loop-at l =
    (share : Text) → turns_listed share l.served.items
    ≡ turns_at l.test.view.now.access.now l.test.view.now.sessions.now l.test.name.now share
    (map (λ a. a.now) (take l.at-index l.found))
