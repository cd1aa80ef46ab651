use Rattle.std.proofs.Common.{◌≡◌, map, take}
use Rattle.std.specs.List.{filter}
use Rattle.std.specs.Option.{option_copied}
use Rattle.mq_retained.specs.Stored.{may_get, message_in}
use Rattle.mq_world.specs.Retained.{retained_copy}
use Rattle.mq_world.specs.Views.{copy_of}
use Rattle.mq_retained.specs.Receivers.{subscription_for}
use Rattle.mq_retained.proofs.retained.copies.copies_of.Given as goal

abbrev pub invariant-loop-stored : goal.invariant-loop-stored
invariant-loop-stored l =
    map copy_of l.copies.items
    ≡ map (retained_copy l.receiver.clock.moment (subscription_for l.receiver))
    (filter (may_get l.receiver.access.now (option_copied l.receiver.user)
    (subscription_for l.receiver))
    (map (λ s. message_in s.now) (take l.stored-index l.found)))
