-- What becomes of a client's subscriptions as it connects, and as sessions end.
use Rattle.std.specs.Prelude.{◌≡◌, ◌⊎◌, ◌&&◌, ℕ, Bool, List, map, Option}
use Rattle.std.specs.Bool.{MatchBool}
use Rattle.std.specs.List.{filter}
use Rattle.mq_acl.specs.AccessLists.{AccessList}
use Rattle.mq_world.specs.Lists.{Text}
use Rattle.mq_world.specs.Sessions.{has_ended, is_among, resumes, user_of}
use Rattle.mq_world.specs.World.{Session}
use Rattle.mq_reach.specs.Tracked.{Asks, TrackedSubscription, closed_all, closed_if, is_open}

-- those of a session that is resumed are asked about under its user name now, unless it is the one that it had; others are
-- closed
abbrev pub Connects : AccessList → (client : Text) → (user : Option Text) → (clean : Bool)
    → List Session → (old new : List TrackedSubscription) → Type 0
Connects list client user clean sessions old new =
    MatchBool (resumes sessions client clean)
    (((user_of sessions client ≡ user) × (new ≡ old)) ⊎ Asks list client user old new)
    (new ≡ map (closed_all client) old)

-- it is closed if it is of a session that has ended
abbrev pub closed_ended : ℕ → List Session → TrackedSubscription → TrackedSubscription
closed_ended moment sessions t =
    closed_if (is_open t.state && is_among (filter (has_ended moment) sessions) t.shown.client) t
