-- The deadlines of waiting copies stay in reach of an expiry interval.
use Rattle.std.proofs.Common.{ℕ, ◌+◌, ◌<◌, ◌≤◌, ◌^◌, Bool, true, false, List, [], ◌∷◌, map, Option}
use Rattle.std.proofs.Common.{Some, None, arith, if◌then◌else◌, ◌≡◌, cond, sym, subst}
use Rattle.std.specs.Option.{IfSome, option_map_or}
use Rattle.std.specs.List.{filter, AllByRecursion}
use Rattle.mq_acl.specs.AccessLists.{AccessList}
use Rattle.mq_world.specs.Lists.{Text, with_row}
use Rattle.mq_world.specs.World.{Session, Away, Subscription, Message, session_cmp, has_id}
use Rattle.mq_world.specs.Clock.{deadline_of}
use Rattle.mq_world.specs.Sessions.{left_by, session_end, session_of}
use Rattle.mq_world.specs.Waiting.{waiting_copy, waiting_after, with_waiting}
use Rattle.mq_sessions.specs.Near.{IsReached, AreReached, AllReached}
use Rattle.mq_world.proofs.OrderLemmas.{session_total, all_weaker, all_filtered, all_append}
use Rattle.mq_world.proofs.OrderLemmas.{all-with_row}
use Rattle.mq_world.proofs.Splits.{some_same}

abbrev Reaches : ℕ → Session → Type 0
Reaches moment session = AreReached moment session.waiting

-- the sessions that stay are in reach of a later moment too
pub reached-later : (moment later : ℕ) (q : Session → Bool) (sessions : List Session)
    → moment ≤ later → AllReached moment sessions → AllReached later (filter q sessions)
reached-later moment later q sessions h reached =
    all_filtered (Reaches later) q sessions
    (all_weaker (Reaches moment) (Reaches later)
    (λ session r. all_weaker (IsReached moment) (IsReached later) (λ w n. nearer w.deadline n)
    session.waiting r) sessions reached)
  where
    nearer : (deadline : Option ℕ) → IfSome deadline (λ d. d < moment + 2 ^ 32)
        → IfSome deadline (λ d. d < later + 2 ^ 32)
    nearer None n = tt
    nearer (Some d) n = omega arith

-- the sessions that stay are in reach as before
pub reached-filter : (moment : ℕ) (q : Session → Bool) (sessions : List Session)
    → AllReached moment sessions → AllReached moment (filter q sessions)
reached-filter moment q sessions reached = all_filtered (Reaches moment) q sessions reached

-- what is in reach of all is in reach of the session that is found
pub reached-found : (moment : ℕ) (id : Text) (found : Session) (sessions : List Session)
    → Some found ≡ session_of sessions id → AllReached moment sessions
    → AreReached moment found.waiting
reached-found moment id found [] is reached = cc
reached-found moment id found (s ∷ ss) is reached =
    by (has_id id s) is (λ later. reached-found moment id found ss later reached.1)
  where
    by : (b : Bool) → Some found ≡ cond b (Some s) (session_of ss id)
        → (Some found ≡ session_of ss id → AreReached moment found.waiting)
        → AreReached moment found.waiting
    by true e later = subst (Reaches moment) (sym (some_same e)) reached.0
    by false e later = later e

-- a session in reach joins others in reach
pub reached-with_row : (moment : ℕ) (session : Session) (sessions : List Session)
    → AreReached moment session.waiting → AllReached moment sessions
    → AllReached moment (with_row session_cmp session sessions)
reached-with_row moment session sessions here reached =
    all-with_row session_cmp session_total (Reaches moment) session sessions here reached

-- what each change of a session keeps is true of all sessions after it
pub all_mapped : (P : Session → Type 0) (f : Session → Session) → ((s : Session) → P s → P (f s))
    → (sessions : List Session) → AllByRecursion P sessions → AllByRecursion P (map f sessions)
all_mapped P f step [] h = tt
all_mapped P f step (s ∷ ss) h = (step s h.0, all_mapped P f step ss h.1)

-- a client that leaves puts no waiting copy out of reach
pub reached-left : (moment now : ℕ) (id : Text) (sessions : List Session)
    → AllReached moment sessions → AllReached moment (map (left_by now id) sessions)
reached-left moment now id sessions reached =
    all_mapped (Reaches moment) (left_by now id) step sessions reached
  where
    step : (s : Session) → Reaches moment s → Reaches moment (left_by now id s)
    step s r = elim (has_id id s)
        as (λ b. Reaches moment (if b then record s { presence = Away (session_end now s.interval) }
        else s)) [ true ↦ r | false ↦ r ]

-- copies of a message that begin to wait are in reach if the message's deadline is
pub reached-after : (limit : ℕ) (access : Option AccessList) (subs : List Subscription) (now : ℕ)
    (m : Message) (sessions : List Session)
    → IfSome (deadline_of now m.expiry) (λ d. d < now + 2 ^ 32) → AllReached now sessions
    → AllReached now (map (waiting_after limit access subs now m) sessions)
reached-after limit access subs now m sessions near reached =
    all_mapped (Reaches now) (waiting_after limit access subs now m) step sessions reached
  where
    step : (s : Session) → Reaches now s → Reaches now (waiting_after limit access subs now m s)
    step s r =
        elim (waiting_copy limit access subs m s)
        as (λ o. Reaches now
        (option_map_or (λ copy. with_waiting s
        (record { copy = copy; deadline = deadline_of now m.expiry } ∷ [])) o s)) [
          | None ↦ r
          | Some copy ↦ all_append (IsReached now) s.waiting
              (record { copy = copy; deadline = deadline_of now m.expiry } ∷ []) r (near, tt)
        ]
