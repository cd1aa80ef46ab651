-- The subscriptions that are unreached so far.
use Rattle.std.specs.Prelude.{◌≡◌, ◌⊎◌, ℕ, ◌+◌, Bool, true, false, List, [], ◌∷◌, ◌&&◌, map}
use Rattle.std.specs.Prelude.{Option, Some, None, IsTrue, slice_get, string_bytes, if◌then◌else◌}
use Rattle.std.specs.BTreeMap.{get_by_text}
use Rattle.std.specs.Bool.{MatchBool}
use Rattle.std.specs.List.{AllZip, filter_map}
use Rattle.std.specs.Option.{option_map, option_map_or}
use Rattle.mq_topic.specs.Texts.{filter_part, is_name}
use Rattle.mq_acl.specs.AccessLists.{AccessList}
use Rattle.mq_world.specs.Lists.{Text, same_text}
use Rattle.mq_reach.specs.Reach.{Reads, ReadsNone}
use Rattle.mq_reach.specs.Subscriptions as spec
use Rattle.mq_reach.specs.declared.subscription.Subscription.{Subscription}
use Rattle.mq_reach.specs.declared.tracked.Entry.{Entry}
use Rattle.mq_reach.specs.declared.tracked.State.{State}
use Rattle.mq_reach.specs.declared.tracked.State.TheVariants.{Open, Closed, Reached}
use Rattle.mq_reach.specs.declared.tracked.Tracked.TheInside as in_tracked

abbrev pub subscription_view : Subscription → spec.Subscription
subscription_view s = record {
  line = s.line;
  client = string_bytes s.client;
  user = option_map string_bytes s.user;
  filter = string_bytes s.filter;
}

abbrev pub subscription_views : List Subscription → List spec.Subscription
subscription_views all = map subscription_view all

-- a subscription that was unreached as it was made, and how it is with it
pub record TrackedSubscription : Type 0 where
  pub shown : spec.Subscription
  pub state : State

abbrev pub entry_view : Entry → TrackedSubscription
entry_view entry = record { shown = subscription_view entry.subscription; state = entry.state }

abbrev pub tracked_of : Subscription → TrackedSubscription
tracked_of s = record { shown = subscription_view s; state = Open }

abbrev pub tracked_in : in_tracked.Inside → List TrackedSubscription
tracked_in inside = map entry_view inside.entries.items

abbrev pub is_open : State → Bool
is_open Open = true
is_open Closed = false
is_open Reached = false

abbrev pub is_open_of : Text → TrackedSubscription → Bool
is_open_of client t = is_open t.state && same_text t.shown.client client

-- the places of those that pass, from this number on
abbrev pub places_from : ℕ → (TrackedSubscription → Bool) → List TrackedSubscription → List ℕ
places_from n test [] = []
places_from n test (t ∷ ts) =
    if test t then n ∷ places_from (n + 1) test ts else places_from (n + 1) test ts

-- by client id the places of those that are open, in their order
abbrev pub AreIndexed : in_tracked.Inside → Type 0
AreIndexed inside = (client : Text)
    → option_map_or (λ places. places.items) (get_by_text inside.open client) []
    ≡ places_from 0 (is_open_of client) (tracked_in inside)

-- the one at this place is there, and open
abbrev pub is_open_at : List TrackedSubscription → ℕ → Bool
is_open_at ts place = option_map_or (λ t. is_open t.state) (slice_get ts place) false

-- ## What becomes of one
-- it is to this filter; without one, whatever it is to
abbrev pub is_to : Option Text → TrackedSubscription → Bool
is_to filter t = option_map_or (same_text t.shown.filter) filter true

abbrev pub closed_if : Bool → TrackedSubscription → TrackedSubscription
closed_if true t = record t { state = Closed }
closed_if false t = t

abbrev pub closed_one : Text → Text → TrackedSubscription → TrackedSubscription
closed_one client filter t =
    closed_if (is_open_of client t && same_text t.shown.filter filter) t

abbrev pub closed_all : Text → TrackedSubscription → TrackedSubscription
closed_all client t = closed_if (is_open_of client t) t

-- asked whether it is unreached under this user name too, or under none, it stays as it is, or it is reached
abbrev pub IsAsked : AccessList → Option Text → (old new : TrackedSubscription) → Type 0
IsAsked list user old new =
    ((new ≡ old) × ReadsNone list old.shown.client user (filter_part old.shown.filter))
    ⊎ ((new ≡ record old { state = Reached })
    × ((topic : List ℕ) × IsTrue (is_name topic)
    × Reads list old.shown.client user (filter_part old.shown.filter) topic))

-- it is the same subscription
abbrev pub IsOf : (old new : TrackedSubscription) → Type 0
IsOf old new = new.shown ≡ old.shown

-- where one passes, this becomes of it, and the others stay as they are
abbrev pub Where : (TrackedSubscription → Bool)
    → (TrackedSubscription → TrackedSubscription → Type 0)
    → (old new : TrackedSubscription) → Type 0
Where test Becomes old new = MatchBool (test old) (Becomes old new) (new ≡ old)

-- those that are open and this client's are asked
abbrev pub Asks : AccessList → Text → Option Text → (old new : List TrackedSubscription) → Type 0
Asks list client user old new =
    AllZip (Where (is_open_of client) (IsAsked list user)) old new

-- ## What is shown
abbrev pub shown_of : TrackedSubscription → Option spec.Subscription
shown_of t = elim t.state [ Open ↦ Some t.shown | Closed ↦ Some t.shown | Reached ↦ None ]

abbrev pub unreached_of : List TrackedSubscription → List spec.Subscription
unreached_of all = filter_map shown_of all
