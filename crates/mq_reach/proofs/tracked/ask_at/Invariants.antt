use Rattle.std.proofs.Common.{◌≡◌, List, drop, length, map}
use Rattle.std.specs.Option.{option_copied}
use Rattle.mq_reach.specs.Tracked.{IsAsked, IsOf, TrackedSubscription, entry_view}
use Rattle.mq_reach.proofs.PlaceLemmas.{Steps}
use Rattle.mq_reach.proofs.WalkLemmas.{shown_all}
use Rattle.mq_reach.proofs.tracked.ask_at.Given as goal

-- what is left of the walk ends as all of it does
abbrev pub invariant-loop-place : goal.invariant-loop-place
invariant-loop-place l = record {
  asked : (us : List TrackedSubscription)
      → Steps (IsAsked l.list (option_copied l.user)) (drop l.place-index l.places)
      (map entry_view l.entries) us
      → Steps (IsAsked l.list (option_copied l.user)) l.places (map entry_view l.fn.entries) us;
  kept : (us : List TrackedSubscription)
      → Steps IsOf (drop l.place-index l.places) (map entry_view l.entries) us
      → Steps IsOf l.places (map entry_view l.fn.entries) us;
  shown : shown_all l.entries ≡ shown_all l.fn.entries;
  count : length l.entries ≡ length l.fn.entries;
}
