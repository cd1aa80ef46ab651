-- The world after an accepted command, and after a list of commands.
use Rattle.std.specs.Prelude.{ℕ, ◌+◌, List, [], ◌∷◌, not, map, Option, Result, Ok, Err, is_some}
use Rattle.std.specs.Prelude.{if◌then◌else◌}
use Rattle.std.specs.Option.{option_map, option_map_or}
use Rattle.std.specs.List.{filter, find}
use Rattle.mq_topic.specs.Texts.{share_of, filter_part}
use Rattle.mq_acl.specs.AccessLists.{AccessList}
use Rattle.mq_acl.specs.Rows.{AclRow, rows_by}
use Rattle.mq_acl.specs.declared.rules.Rules.{Rules}
use Rattle.mq_acl.specs.declared.fault.AclFault.{AclFault}
use Rattle.mq_world.specs.Lists.{Text, same_text, with_row}
use Rattle.mq_world.specs.World.{World, Row, Subscription, Request, Connect, Disconnect, Subscribe}
use Rattle.mq_world.specs.World.{Unsubscribe, Publish, SetAcl, Advance, Stat, subscription_of}
use Rattle.mq_world.specs.World.{session_cmp}
use Rattle.mq_world.specs.World.{row_cmp, has_id, has_key, same_key, subscriptions_of}
use Rattle.mq_world.specs.Sessions.{new_session, outlives, resumes, left_by, has_ended, is_among}
use Rattle.mq_world.specs.Waiting.{waiting_after}
use Rattle.mq_world.specs.Groups.{served_by, restamp}
use Rattle.mq_world.specs.Retained.{retained_after, without_expired}
use Rattle.mq_world.specs.Refusals.{refusal}

-- the rows without those of a client
abbrev pub without_client : Text → List Row → List Row
without_client id rows = filter (λ row. not (same_text row.subscription.client id)) rows

-- the stamp of the row with this key, or else a new one
abbrev pub kept_stamp : World → Subscription → ℕ
kept_stamp w s = option_map_or (λ row. row.stamp) (find (λ row. same_key s row.subscription) w.rows)
    w.accepted

abbrev pub rows_or_none : Result (List AclRow) AclFault → List AclRow
rows_or_none (Ok rows) = rows
rows_or_none (Err fault) = []

-- without text there is no access list; a text with a fault is refused
abbrev pub access_of : Rules → Option Text → Option AccessList
access_of rules text =
    option_map (λ t. record { rules = rules; rows = rows_or_none (rows_by rules t) }) text

-- what changes beside the count of accepted commands. A connect of a connected client acts first as its disconnect (own),
-- and then begins a session or resumes the one that is left, with its subscriptions; a subscribe with the key of a
-- subscription replaces its options and keeps its stamp; a publish gives the members that it serves a new stamp
abbrev pub change_world : World → Request → World
change_world w (Connect id user clean interval) = record w {
  sessions = with_row session_cmp (new_session id user interval) w.sessions;
  rows = if resumes w.sessions id clean then w.rows else without_client id w.rows;
}
change_world w (Disconnect id) =
    if outlives w.sessions id
    then record w { sessions = map (left_by w.moment id) w.sessions }
    else record w {
      sessions = filter (λ session. not (has_id id session)) w.sessions;
      rows = without_client id w.rows;
    }
change_world w (Subscribe id text options) =
    let s = subscription_of id text options in
    record w {
      rows = with_row row_cmp (record { subscription = s; stamp = kept_stamp w s }) w.rows;
    }
change_world w (Unsubscribe id text) =
    record w {
      rows =
          filter (λ row. not (has_key id (share_of text) (filter_part text) row.subscription))
          w.rows;
    }
change_world w (Publish m) = record w {
  sessions = map (waiting_after w.limits.queued w.access (subscriptions_of w) w.moment m)
      w.sessions;
  rows = map (restamp w.accepted (served_by w m)) w.rows;
  retained = retained_after w.moment w.retained m;
}
change_world w (SetAcl text) = record w { access = access_of w.rules text }
change_world w (Advance seconds) =
    let now = w.moment + seconds in
    record w {
      moment = now;
      sessions = filter (λ session. not (has_ended now session)) w.sessions;
      rows = filter
          (λ row. not (is_among (filter (has_ended now) w.sessions) row.subscription.client))
          w.rows;
      retained = without_expired now w.retained;
    }
change_world w Stat = w

unfoldable pub after : World → Request → World
after w request = record (change_world w request) { accepted = w.accepted + 1 }

-- a refused command leaves the world
unfoldable pub next : World → Request → World
next w request = if is_some (refusal w request) then w else after w request

-- the world after commands, in order
abbrev pub replay : World → List Request → World
replay w [] = w
replay w (request ∷ requests) = replay (next w request) requests
