-- What is left of a walk over the sessions.
use Rattle.std.specs.Prelude.{◌≡◌, Bool, true, List, [], ◌∷◌, map, Option, Some, None}
use denote.Ref.{Bor}
use Rattle.std.specs.List.{AllByRecursion}
use Rattle.std.specs.List.Sorted.{IsStrictlySortedBy}
use Rattle.std.specs.Ordering.{is_lt}
use Rattle.std.specs.Rc.{rc_str_bytes}
use Rattle.mq_world.specs.Keys.{Key}
use Rattle.mq_world.specs.Lists.{Text, text_cmp}
use Rattle.mq_world.specs.World as world
use Rattle.mq_world.specs.World.{session_cmp}
use Rattle.mq_world.specs.Sessions.{session_of}
use Rattle.mq_sessions.specs.Views.{session_in}
use Rattle.mq_sessions.specs.declared.sessions.session.Session.{Session}

-- the id stands behind the last one that the walk has passed
abbrev pub is_past : Option (Bor Key) → Text → Bool
is_past None id = true
is_past (Some key) id = is_lt (text_cmp (rc_str_bytes key.now) id)

-- the entry ahead, and those behind it
abbrev pub entries_left : Option (Bor Key × Bor Session) → List (Key × Session)
    → List (Key × Session)
entries_left None rest = []
entries_left (Some entry) rest = (entry.0.now, entry.1.now) ∷ rest

-- where these are left of all sessions, each id behind the last one passed is found among them
pub record AreLeft (sessions : List world.Session) (past : Option (Bor Key))
    (left : List world.Session) : Type 0 where
  pub in_order : IsStrictlySortedBy session_cmp left
  pub beyond : AllByRecursion (λ session. is_past past session.id ≡ true) left
  pub finds : (id : Text) → is_past past id ≡ true → session_of sessions id ≡ session_of left id

abbrev pub IsAhead : List world.Session → Option (Bor Key) → Option (Bor Key × Bor Session)
    → List (Key × Session) → Type 0
IsAhead sessions past ahead rest =
    AreLeft sessions past (map session_in (entries_left ahead rest))
