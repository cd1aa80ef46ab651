use Rattle.std.proofs.Common.{◌≡◌, map}
use Rattle.mq_reach.specs.Tracked.{entry_view, subscription_views, unreached_of}
use Rattle.mq_reach.proofs.tracked.Tracked.unreached.Given as goal

abbrev pub invariant-loop-entry : goal.invariant-loop-entry
invariant-loop-entry l = subscription_views l.unreached.items
    ≡ unreached_of (map entry_view l.yielded)
