-- When sessions end, and the index of their ends.
use Rattle.std.specs.Prelude.{◌≡◌, ℕ, ◌*◌, ◌≤◌, nat_le, Bool, true, false, List, [], length, map}
use Rattle.std.specs.Prelude.{Option, None, is_some, if◌then◌else◌}
use Rattle.std.specs.Option.{IfSome, option_map_or}
use Rattle.std.specs.List.{filter, list_any, AllByRecursion}
use Rattle.std.specs.Rc.{rc_str_bytes}
use Rattle.mq_sessions.specs.Dues.{Due, first_of, is_in, same_due}
use Rattle.mq_world.specs.Keys.{Key}
use Rattle.mq_world.specs.World.{Session, Connected, Away}
use Rattle.mq_sessions.specs.Views.{kept_id, session_in}
use Rattle.mq_sessions.specs.declared.sessions.index.Index.{Index}
use Rattle.mq_sessions.specs.declared.sessions.session.Session as code

-- when the session ends, if its client is away and it ends
abbrev pub end_of : Session → Option ℕ
end_of session = elim session.presence [ Connected ↦ None | Away end ↦ end ]

-- the session ends as the index has it
abbrev pub has_end : Due → Session → Bool
has_end due session = option_map_or (λ end. same_due (end, session.id) due) (end_of session) false

-- the end of each session is in the index
abbrev pub IsListed : List Due → Session → Type 0
IsListed dues session = IfSome (end_of session) (λ end. is_in (end, session.id) dues ≡ true)

abbrev pub AreListed : List Due → List Session → Type 0
AreListed dues sessions = AllByRecursion (IsListed dues) sessions

-- the session's client is away, and it ends
abbrev pub is_ending : Session → Bool
is_ending session = is_some (end_of session)

abbrev pub ending : List Session → List Session
ending sessions = filter is_ending sessions

-- 1 for an end, and 0 for none
abbrev pub one_if : Bool → ℕ
one_if b = if b then 1 else 0

-- there is room for so many ends in each heap
abbrev pub HasRoom : ℕ → Index → Type 0
HasRoom count index = (count ≤ index.ends.room) × (count ≤ index.spare.room)

-- the end of each session is in the index, and others that can be swept into the spare heap
pub record AreKept (index : Index) (sessions : List Session) : Type 0 where
  pub listed : AreListed index.ends.entries sessions
  pub empty : index.spare.entries ≡ []
  pub fits : length index.ends.entries ≤ index.spare.room
  pub room : HasRoom (2 * length sessions) index

-- at most twice as many ends are in the index as there are sessions that end. So there is room for the end of each
-- session whose client is connected, which comes in without memory
pub record AreIndexed (index : Index) (sessions : List Session) : Type 0 where
  pub kept : AreKept index sessions
  pub count : index.count ≡ length (ending sessions)
  pub few : length index.ends.entries ≤ 2 * length (ending sessions)

-- if the first end in the index has come, it is that of a session: its client has not come back
abbrev pub IsFirstLive : ℕ → List Due → List Session → Type 0
IsFirstLive moment dues sessions = IfSome (first_of dues)
    (λ due. nat_le due.0 moment ≡ true → list_any (has_end due) sessions ≡ true)

abbrev pub Entry : Type 0
Entry = Key × code.Session

-- an id that a session keeps is that of its client
abbrev pub KeepsId : Entry → Type 0
KeepsId entry = IfSome (kept_id entry.1) (λ id. id ≡ rc_str_bytes entry.0)

abbrev pub KeepIds : List Entry → Type 0
KeepIds entries = AllByRecursion KeepsId entries

abbrev pub views_of : List Entry → List Session
views_of entries = map session_in entries
