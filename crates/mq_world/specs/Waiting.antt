-- Copies that wait for clients that are away (MQTT 5.0, section 4.1; how many may wait is our own).
use Rattle.std.specs.Prelude.{ℕ, Bool, List, [], ◌∷◌, ◌++◌, length, ◌==◌, nat_lt, ◌&&◌, not, Option}
use Rattle.std.specs.Prelude.{Some, None, is_some, if◌then◌else◌}
use Rattle.std.specs.Option.{option_map_or, option_and_then}
use Rattle.std.specs.List.{filter_map, list_any}
use Rattle.mq_acl.specs.AccessLists.{AccessList}
use Rattle.mq_world.specs.Lists.{Text}
use Rattle.mq_world.specs.World.{Session, Subscription, Waiting, Message, Copy}
use Rattle.mq_world.specs.Clock.{deadline_of, is_over, time_left}
use Rattle.mq_world.specs.Sessions.{session_of, is_present, resumes}
use Rattle.mq_world.specs.Copies.{unshared_copy}

-- ## What a publish leaves waiting

-- fewer copies wait than may
abbrev pub has_place : ℕ → Session → Bool
has_place limit session = nat_lt (length session.waiting) limit

-- the client is away, and fewer copies wait for it than may
abbrev pub has_room : ℕ → Session → Bool
has_room limit session = not (is_present session) && has_place limit session

-- a copy of QoS 0 does not wait (section 4.1)
abbrev pub with_qos : Copy → Option Copy
with_qos copy = if copy.qos == 0 then None else Some copy

-- the copy that begins to wait for the client: the one that it would get if it were connected
abbrev pub waiting_copy : ℕ → Option AccessList → List Subscription → Message → Session
    → Option Copy
waiting_copy limit access subscriptions m session =
    if has_room limit session
    then option_and_then with_qos (unshared_copy access subscriptions m session.id session.user)
    else None

unfoldable pub begins_to_wait : ℕ → Option AccessList → List Session → List Subscription
    → Message → Bool
begins_to_wait limit access sessions subscriptions m =
    list_any (λ session. is_some (waiting_copy limit access subscriptions m session)) sessions

-- behind the copies that wait
abbrev pub with_waiting : Session → List Waiting → Session
with_waiting session waiting = record session { waiting = session.waiting ++ waiting }

-- the session after a publish
abbrev pub waiting_after : ℕ → Option AccessList → List Subscription → ℕ → Message → Session
    → Session
waiting_after limit access subscriptions now m session =
    option_map_or (λ copy. with_waiting session
    (record { copy = copy; deadline = deadline_of now m.expiry } ∷ []))
    (waiting_copy limit access subscriptions m session) session

-- ## What a client gets that comes back

abbrev pub waiting_for : List Session → Text → List Waiting
waiting_for sessions id = option_map_or (λ session. session.waiting) (session_of sessions id) []

-- the copy with what is left of its interval, unless that is over
abbrev pub resumed_copy : ℕ → Waiting → Option Copy
resumed_copy now waiting =
    if is_over now waiting.deadline then None
    else Some (record waiting.copy { expiry = time_left now waiting.deadline })

-- in the order in which they waited
unfoldable pub resumed_copies : ℕ → List Session → Text → Bool → List Copy
resumed_copies now sessions id clean =
    if resumes sessions id clean then filter_map (resumed_copy now) (waiting_for sessions id)
    else []
