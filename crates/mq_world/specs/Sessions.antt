-- Whose session is there, who is connected, and who may read and write what (MQTT 5.0, sections 3.1.2.4, 3.1.2.11.2 and
-- 4.1).
use Rattle.std.specs.Prelude.{ℕ, Bool, true, false, List, [], ◌==◌, ◌&&◌, not, Option, Some, None}
use Rattle.std.specs.Prelude.{if◌then◌else◌}
use Rattle.std.specs.Option.{option_and_then, option_map_or}
use Rattle.std.specs.List.{filter, find, list_any}
use Rattle.mq_acl.specs.AccessLists.{AccessList, allowed}
use Rattle.mq_acl.specs.declared.access.Direction.{Direction}
use Rattle.mq_acl.specs.declared.access.Direction.TheVariants.{Reading}
use Rattle.mq_world.specs.Lists.{Text}
use Rattle.mq_world.specs.World.{World, Session, Connected, Away, has_id}
use Rattle.mq_world.specs.Clock.{deadline_of, is_over}

-- ## Who is connected

abbrev pub is_present : Session → Bool
is_present session = elim session.presence [ Connected ↦ true | Away end ↦ false ]

-- the sessions of the clients that are connected
abbrev pub connected : List Session → List Session
connected sessions = filter is_present sessions

-- the session of a client that connects
abbrev pub new_session : Text → Option Text → ℕ → Session
new_session id user interval =
    record { id = id; user = user; interval = interval; presence = Connected; waiting = [] }

-- the session of a client, if it has one
abbrev pub session_of : List Session → Text → Option Session
session_of sessions id = find (has_id id) sessions

abbrev pub is_connected : List Session → Text → Bool
is_connected sessions id = option_map_or is_present (session_of sessions id) false

-- the user name of a client with a session, if it has one
abbrev pub user_of : List Session → Text → Option Text
user_of sessions id = option_and_then (λ session. session.user) (session_of sessions id)

-- whether the access list lets the client read or write the topic
abbrev pub may : World → Text → Text → Direction → Bool
may w id topic direction = allowed w.access id (user_of w.sessions id) topic direction

-- the client is connected and may read the topic
abbrev pub is_reader : Option AccessList → List Session → Text → Text → Bool
is_reader access sessions topic id = is_connected sessions id
    && allowed access id (user_of sessions id) topic Reading

-- whether a group may serve the client with a message of the topic
abbrev pub can_be_served : World → Text → Text → Bool
can_be_served w topic id = is_reader w.access w.sessions topic id

-- ## How long a session lasts

-- a session with an interval of 0 ends with its connection, any other outlives it (section 3.1.2.11.2)
abbrev pub outlives_connection : Session → Bool
outlives_connection session = not (is_present session && session.interval == 0)

abbrev pub outlives : List Session → Text → Bool
outlives sessions id = option_map_or outlives_connection (session_of sessions id) false

-- Clean Start discards a session that is there (section 3.1.2.4)
abbrev pub resumes : List Session → Text → Bool → Bool
resumes sessions id clean = not clean && outlives sessions id

-- the greatest interval stands for ever (section 3.1.2.11.2)
abbrev pub session_end : ℕ → ℕ → Option ℕ
session_end now interval = deadline_of now (if interval == 4294967295 then None else Some interval)

-- the session, if it is that of the client, as its connection ends
abbrev pub left_by : ℕ → Text → Session → Session
left_by now id session =
    if has_id id session then record session { presence = Away (session_end now session.interval) }
    else session

abbrev pub has_ended : ℕ → Session → Bool
has_ended now session = elim session.presence [ Connected ↦ false | Away end ↦ is_over now end ]

-- the client has one of the sessions
abbrev pub is_among : List Session → Text → Bool
is_among sessions id = list_any (has_id id) sessions
