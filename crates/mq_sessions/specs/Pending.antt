-- Copies that begin to wait, beside a walk over the sessions.
use Rattle.std.specs.Prelude.{◌≡◌, ℕ, Bool, true, List, Option, Some, None}
use Rattle.std.specs.List.{filter, find}
use Rattle.std.specs.List.Sorted.{IsStrictlySortedBy}
use Rattle.std.specs.Ordering.{is_lt}
use Rattle.std.specs.declared.cmp.Ordering.{Ordering}
use Rattle.mq_world.specs.Lists.{Text, same_text, text_cmp}
use Rattle.mq_world.specs.World as world
use Rattle.mq_sessions.specs.Queue.{QueueItem, queue_copies}
use Rattle.mq_sessions.specs.Views.{kept_id, view_of}
use Rattle.mq_sessions.specs.declared.sessions.session.Session.{Session}

abbrev pub item_cmp : QueueItem → QueueItem → Ordering
item_cmp a b = text_cmp a.0 b.0

-- by client id, each for another client
abbrev pub AreAscending : List QueueItem → Type 0
AreAscending items = IsStrictlySortedBy item_cmp items

abbrev pub is_for : Text → QueueItem → Bool
is_for id item = same_text id item.0

abbrev pub is_beyond : Text → QueueItem → Bool
is_beyond id item = is_lt (text_cmp id item.0)

-- the session with what begins to wait there, if something does
abbrev pub joined : ℕ → Option QueueItem → world.Session → world.Session
joined limit None session = session
joined limit (Some item) session = queue_copies limit item.1 session

-- the walk keeps the session of a client, where what begins to wait for it joins, and goes on with
-- these
abbrev pub Joins : ℕ → List QueueItem → Text → Bool → Session → Session → List QueueItem → Type 0
Joins limit items id stays before after left =
    (stays ≡ true) × (kept_id after ≡ kept_id before)
    × (view_of after ≡ joined limit (find (is_for id) items) (view_of before))
    × (left ≡ filter (is_beyond id) items)
