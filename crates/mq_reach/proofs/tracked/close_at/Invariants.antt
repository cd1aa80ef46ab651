use Rattle.std.proofs.Common.{List, drop, map}
use Rattle.std.specs.Option.{option_copied}
use Rattle.mq_reach.specs.Tracked.{TrackedSubscription, entry_view}
use Rattle.mq_reach.proofs.OpenLemmas.{Closes}
use Rattle.mq_reach.proofs.PlaceLemmas.{Steps}
use Rattle.mq_reach.proofs.tracked.close_at.Given as goal

-- what is left of the walk ends as all of it does
abbrev pub invariant-loop-place : goal.invariant-loop-place
invariant-loop-place l = (us : List TrackedSubscription)
    → Steps (Closes (option_copied l.filter)) (drop l.place-index l.places)
    (map entry_view l.entries) us
    → Steps (Closes (option_copied l.filter)) l.places (map entry_view l.fn.entries) us
