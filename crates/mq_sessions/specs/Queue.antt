-- The copies that a publish lets wait, each with its client, and the sessions when they have joined those that wait.
use Rattle.std.specs.Prelude.{ℕ, Bool, false, List, [], ◌∷◌, map, Option, if◌then◌else◌}
use Rattle.std.specs.Option.{option_map_or}
use Rattle.mq_world.specs.Lists.{Text}
use Rattle.mq_world.specs.World.{Session, Waiting, Copy, has_id}
use Rattle.mq_world.specs.Sessions.{session_of}
use Rattle.mq_world.specs.Waiting.{has_place, has_room, with_waiting}

-- the client has a session, it is away, and fewer copies wait for it than may
abbrev pub room_for : ℕ → List Session → Text → Bool
room_for limit sessions id = option_map_or (has_room limit) (session_of sessions id) false

-- a client and what begins to wait for it
abbrev pub QueueItem : Type 0
QueueItem = Text × List Waiting

abbrev pub queue_item : Text → Option ℕ → Copy → QueueItem
queue_item id deadline copy = (id, record { copy = copy; deadline = deadline } ∷ [])

-- the session with these copies behind those that wait, if there is a place
abbrev pub queue_copies : ℕ → List Waiting → Session → Session
queue_copies limit waiting session = if has_place limit session then
    with_waiting session waiting else session

-- the session, if it is that of the client, as this changes it
abbrev pub edit_session : (Session → Session) → Text → Session → Session
edit_session f id session = if has_id id session then f session else session

abbrev pub queue_one : ℕ → QueueItem → List Session → List Session
queue_one limit b sessions = map (edit_session (queue_copies limit b.1) b.0) sessions

abbrev pub queue_all : ℕ → List QueueItem → List Session → List Session
queue_all limit [] sessions = sessions
queue_all limit (b ∷ bs) sessions = queue_all limit bs (queue_one limit b sessions)
