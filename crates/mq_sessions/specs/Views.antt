-- What sessions and the copies that wait show.
use Rattle.std.specs.Prelude.{List, [], map, string_bytes, Option, Some, None}
use Rattle.std.specs.Option.{option_map}
use Rattle.std.specs.Rc.{rc_str_bytes}
use Rattle.mq_world.specs.Lists.{Text}
use Rattle.mq_world.specs.Keys.{Key}
use Rattle.mq_world.specs.World as world
use Rattle.mq_world.specs.Views.{copy_of}
use Rattle.mq_sessions.specs.Queue.{QueueItem}
use Rattle.mq_sessions.specs.declared.sessions.session.Session.{Session}
use Rattle.mq_sessions.specs.declared.sessions.session.Waiting.{Waiting}
use Rattle.mq_sessions.specs.declared.sessions.session.Presence.{Presence}
use Rattle.mq_sessions.specs.declared.sessions.session.Presence.TheVariants.{Connected, Away}
use Rattle.mq_sessions.specs.declared.sessions.queued.QueuedCopy.{QueuedCopy}
use Rattle.mq_sessions.specs.declared.sessions.Sessions.TheInside as in_sessions

abbrev pub waiting_of : Waiting → world.Waiting
waiting_of w = record { copy = copy_of w.copy; deadline = w.deadline }

abbrev pub presence_of : Presence → world.Presence
presence_of (Connected id) = world.Connected
presence_of (Away end) = world.Away end

-- the id that is kept while the client is connected
abbrev pub kept_id : Session → Option Text
kept_id s = elim s.presence [ Connected id ↦ Some (rc_str_bytes id) | Away end ↦ None ]

abbrev pub session_at : Text → Session → world.Session
session_at id s = record {
  id = id;
  user = option_map string_bytes s.user;
  interval = s.interval;
  presence = presence_of s.presence;
  waiting = map waiting_of s.waiting;
}

-- whoever's it is
abbrev pub view_of : Session → world.Session
view_of s = session_at [] s

abbrev pub session_in : Key × Session → world.Session
session_in entry = session_at (rc_str_bytes entry.0) entry.1

abbrev pub sessions_of : in_sessions.Inside → List world.Session
sessions_of inside = map session_in inside.by_id.entries

abbrev pub queue_item_of : QueuedCopy → QueueItem
queue_item_of b = (rc_str_bytes b.client, map waiting_of b.copies)
