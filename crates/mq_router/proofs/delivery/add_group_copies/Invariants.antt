use Rattle.std.proofs.Common.{◌≡◌, ◌++◌, map, take}
use Rattle.mq_router.specs.router.Effects.{member_copy}
use Rattle.mq_world.specs.Views.{copy_of, message_of}
use Rattle.mq_subscriptions.specs.Turns.{turn_of}
use Rattle.mq_router.proofs.delivery.add_group_copies.Given as goal

abbrev pub invariant-loop-turn : goal.invariant-loop-turn
invariant-loop-turn l =
    map copy_of l.copies.items ≡ map copy_of l.initial.copies.items
    ++ map (λ t. member_copy (message_of l.outgoing.message) (turn_of t))
    (take l.turn-index l.served)
