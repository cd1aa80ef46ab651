-- The subscriptions of a script, each with its line, and with the user names that its client's session has while it keeps
-- the subscription.
use Rattle.std.specs.Prelude.{ℕ, ◌+◌, Bool, true, false, List, [], ◌∷◌, ◌++◌, ◌&&◌, not, Option, Some, None}
use Rattle.std.specs.Prelude.{Result, Ok, Err, length, is_some, if◌then◌else◌}
use Rattle.std.specs.List.{filter_map, list_any}
use Rattle.std.specs.Option.{option_and_then, option_map_or, option_to_list}
use Rattle.mq_world.specs.After.{next, replay}
use Rattle.mq_world.specs.Lists.{Text}
use Rattle.mq_world.specs.Refusals.{refusal}
use Rattle.mq_world.specs.Sessions.{user_of}
use Rattle.mq_world.specs.World.{World, Request, Subscribe, empty_world, same_key}
use Rattle.mq_world.specs.World.{subscription_of, subscriptions_of}
use Rattle.mq_world.specs.World as world
use Rattle.mq_jsonl.specs.Lines.{command_in}
use Rattle.mq_jsonl.specs.Reading.{reading}
use Rattle.mq_jsonl.specs.declared.fault.LineFault.{LineFault}

-- what is shown of a subscription; the user name, or none, is that of its client as it subscribes
pub record Subscription : Type 0 where
  pub line : ℕ
  pub client : Text
  pub user : Option Text
  pub filter : Text

-- and the user names of its client's session while that keeps it, the one as it subscribes first; and whether it still
-- keeps it at the end of the script
pub record Kept : Type 0 where
  pub shown : Subscription
  pub users : List (Option Text)
  pub is_open : Bool

-- ## What a broker does with the commands
-- It knows the sessions, their subscriptions and the clock as `World` has them; without an access list, which takes no
-- part in these.

-- the commands that the lines say; a line that says none is passed over
abbrev pub commands_of : List (List ℕ) → List Request
commands_of lines = filter_map (λ line. command_in (reading line)) lines

-- the world behind lines
abbrev pub world_of : List (List ℕ) → World
world_of lines = replay empty_world (commands_of lines)

-- the world behind a line that says this command, or none
abbrev pub world_then : World → Option Request → World
world_then w command = option_map_or (next w) command w

-- it is not refused
abbrev pub is_taken : World → Request → Bool
is_taken w request = not (is_some (refusal w request))

-- ## How long a session keeps a subscription
-- the client subscribes to it again
abbrev pub makes : world.Subscription → World → Request → Bool
makes s w (Subscribe client text options) =
    is_taken w (Subscribe client text options) && same_key s (subscription_of client text options)
makes s w request = false

-- the subscription, which the client's session has in this world, is still there behind the command and isn't made again:
-- the client doesn't unsubscribe it, and its session doesn't end (MQTT 5.0, sections 3.10, 3.1.2.4 and 3.1.2.11.2)
abbrev pub stays : world.Subscription → World → Request → Bool
stays s w request = not (makes s w request) && list_any (same_key s) (subscriptions_of (next w request))

-- the user names that the client's session has from this world on, as these commands follow, while it keeps the
-- subscription. A session has the user name of its client's last connect, so these are all with which the client is
-- connected meanwhile
abbrev pub users_from : world.Subscription → World → List Request → List (Option Text)
users_from s w [] = user_of w.sessions s.client ∷ []
users_from s w (request ∷ requests) = user_of w.sessions s.client
    ∷ (if stays s w request then users_from s (next w request) requests else [])

-- the session keeps the subscription through all these commands
abbrev pub stays_through : world.Subscription → World → List Request → Bool
stays_through s w [] = true
stays_through s w (request ∷ requests) =
    stays s w request && stays_through s (next w request) requests

-- ## The subscriptions
-- what a command of this line makes, as others follow it
abbrev pub made_by : ℕ → World → Request → List Request → Option Kept
made_by line w (Subscribe client text options) later =
    if is_taken w (Subscribe client text options)
    then Some (record {
      shown = record { line = line; client = client; user = user_of w.sessions client; filter = text };
      users = users_from (subscription_of client text options)
          (next w (Subscribe client text options)) later;
      is_open = stays_through (subscription_of client text options)
          (next w (Subscribe client text options)) later;
    })
    else None
made_by line w request later = None

-- of the lines that follow so many, in this world
abbrev pub subscriptions_from : ℕ → World → List (List ℕ) → List Kept
subscriptions_from count w [] = []
subscriptions_from count w (line ∷ lines) =
    option_to_list (option_and_then (λ request. made_by (count + 1) w request (commands_of lines))
    (command_in (reading line)))
    ++ subscriptions_from (count + 1) (world_then w (command_in (reading line))) lines

-- the subscriptions of a script with these lines, in their order
abbrev pub subscriptions : List (List ℕ) → List Kept
subscriptions lines = subscriptions_from 0 empty_world lines

-- ## Lines that are no commands

abbrev pub fault_at : ℕ → Result (Option Request) LineFault → Option ℕ
fault_at line (Ok command) = None
fault_at line (Err fault) = Some line

abbrev pub faulty_from : (before lines : List (List ℕ)) → List ℕ
faulty_from before [] = []
faulty_from before (line ∷ lines) =
    option_to_list (fault_at (length before + 1) (reading line))
    ++ faulty_from (before ++ line ∷ []) lines

-- the numbers of the lines that are no commands, and not blank
abbrev pub faulty_lines : List (List ℕ) → List ℕ
faulty_lines lines = faulty_from [] lines
