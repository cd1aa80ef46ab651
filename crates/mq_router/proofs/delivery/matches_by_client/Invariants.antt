use Rattle.std.proofs.Common.{◌≡◌, map, take}
use Rattle.mq_world.specs.Views.{message_of}
use Rattle.mq_subscriptions.specs.Matches.{match_views, rows_found, unshared_matches}
use Rattle.mq_router.proofs.delivery.matches_by_client.Given as goal

abbrev pub invariant-loop-at : goal.invariant-loop-at
invariant-loop-at l =
    match_views l.matches.items ≡ unshared_matches (message_of l.message)
    (rows_found (map (λ a. a.now) (take l.at-index l.found)))
