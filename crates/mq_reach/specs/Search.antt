-- What is found in a script.
use Rattle.std.specs.Prelude.{◌≡◌, ◌⊎◌, ℕ, List, [], ◌∷◌, ◌++◌, length, Option, Some}
use Rattle.std.specs.Prelude.{None, Result, Ok, Err, slice_get, if◌then◌else◌, ◌&&◌, not}
use Rattle.std.specs.Option.{option_to_list}
use Rattle.mq_topic.specs.Texts.{is_shared, is_subscription}
use Rattle.mq_acl.specs.AccessLists.{AccessList}
use Rattle.mq_world.specs.Refusals.{is_client_id}
use Rattle.mq_world.specs.Sessions.{is_connected, user_of}
use Rattle.mq_world.specs.World.{Request, Session, Subscribe, World}
use Rattle.mq_jsonl.specs.declared.fault.LineFault.{LineFault}
use Rattle.mq_reach.specs.Subscriptions.{Kept, commands_of, faulty_lines, subscriptions}
use Rattle.mq_reach.specs.Subscriptions.{world_of, world_then}
use Rattle.mq_reach.specs.Subscriptions as spec
use Rattle.mq_reach.specs.Tracked.{TrackedSubscription, subscription_views}
use Rattle.mq_reach.specs.Unqueued.{unqueued}
use Rattle.mq_reach.specs.Unreached.{AreUnreached, IsReached, IsUnreached}
use Rattle.mq_reach.specs.declared.counts.Counts.{Counts}
use Rattle.mq_reach.specs.declared.counts.LineKind.{LineKind}
use Rattle.mq_reach.specs.declared.counts.LineKind.TheVariants as kinds
use Rattle.mq_reach.specs.declared.search.Findings.{Findings}
use Rattle.mq_reach.specs.declared.search.Search.{Search}
use Rattle.mq_reach.specs.declared.tracked.State.TheVariants as states

-- the lines are counted: all, the commands, those that make subscriptions, and those that are no commands, with the
-- first of these
pub record AreCounted (all : List (List ℕ)) (c : Counts) : Type 0 where
  pub lines : c.lines ≡ length all
  pub commands : c.commands ≡ length (commands_of all)
  pub subscribed : c.subscriptions ≡ length (subscriptions all)
  pub faulty : c.faulty ≡ length (faulty_lines all)
  pub first_faulty : c.first_faulty ≡ slice_get (faulty_lines all) 0

-- of a script with these lines the unreached subscriptions are shown, and no others
pub record IsFound (list : AccessList) (lines : List (List ℕ)) (f : Findings) : Type 0 where
  pub unreached : AreUnreached list (subscriptions lines) (subscription_views f.unreached.items)
  pub counts : AreCounted lines f.counts

-- ## A search on its way

-- this is how it is with a subscription: it is reached; or it is unreached so far, and open just where its session keeps it
abbrev pub IsTracked : AccessList → Kept → TrackedSubscription → Type 0
IsTracked list kept t = (t.shown ≡ kept.shown)
    × (((t.state ≡ states.Reached) × IsReached list kept)
    ⊎ ((t.state ≡ (if kept.is_open then states.Open else states.Closed)) × IsUnreached list kept))

-- of all these subscriptions those are tracked that were unreached as they were made; the others are reached
abbrev pub AreTracked : AccessList → (all : List Kept) → List TrackedSubscription → Type 0
AreTracked list [] tracked = tracked ≡ []
AreTracked list (kept ∷ all) tracked =
    (IsReached list kept × AreTracked list all tracked)
    ⊎ ((t : TrackedSubscription) × (later : List TrackedSubscription) × (tracked ≡ t ∷ later)
    × IsTracked list kept t × AreTracked list all later)

-- the sessions and the clock are those of this world
pub record IsWorldOf (w : World) (s : Search) : Type 0 where
  pub sessions : s.sessions ≡ unqueued w.sessions
  pub moment : s.clock.moment ≡ w.moment

-- these lines are searched
pub record IsSearched (list : AccessList) (lines : List (List ℕ)) (s : Search) : Type 0 where
  pub is_world : IsWorldOf (world_of lines) s
  pub tracked : AreTracked list (subscriptions lines) s.tracked
  pub counts : AreCounted lines s.counts

-- a command behind these lines is taken in, but its line isn't counted yet; where it makes a subscription, that stands
-- behind the others
pub record Applies (list : AccessList) (command : Option Request) (old new : Search) :
    Type 0 where
  pub follows : (w : World) → IsWorldOf w old → IsWorldOf (world_then w command) new
  pub tracked : (lines : List (List ℕ)) (line : List ℕ) → commands_of (line ∷ [])
      ≡ option_to_list command → IsWorldOf (world_of lines) old → AreTracked list
      (subscriptions lines) old.tracked → length lines ≡ old.counts.lines
      → AreTracked list (subscriptions (lines ++ line ∷ [])) new.tracked
  pub counts : new.counts ≡ old.counts

-- what is shown of what a command of this line makes, where these are the sessions
abbrev pub shown_by : ℕ → List Session → Request → Option spec.Subscription
shown_by line sessions (Subscribe client text options) =
    if is_client_id client && is_connected sessions client && is_subscription text
    && not (is_shared text && options.no_local)
    then Some (record { line = line; client = client; user = user_of sessions client; filter = text })
    else None
shown_by line sessions request = None

abbrev pub kind_of : Option spec.Subscription → Result (Option Request) LineFault → LineKind
kind_of made (Err fault) = kinds.NoCommand
kind_of made (Ok None) = kinds.Blank
kind_of (Some s) (Ok (Some command)) = kinds.Subscription
kind_of None (Ok (Some command)) = kinds.Command
