-- A run on its way: what is answered so far, and what is kept of the line that has not ended.
use Rattle.std.specs.Prelude.{◌≡◌, ◌≤◌, ℕ, ◌+◌, List, [], ◌++◌, length, if◌then◌else◌, Bool}
use Rattle.std.specs.Prelude.{Option, Some, None, is_some, Result, MatchResult}
use Rattle.std.specs.Io.KnownBytes.{Appends, IsAtEnd}
use Rattle.mq_world.specs.World.{World, Request}
use Rattle.mq_world.specs.Refusals.{refusal}
use Rattle.mq_world.specs.After.{next}
use Rattle.mq_router.specs.StandsFor.{State, StandsFor}
use Rattle.mq_run.specs.declared.outcome.RunFault.{RunFault}
use Rattle.mq_run.specs.declared.outcome.RunFault.TheVariants as fault
use Rattle.mq_run.specs.declared.progress.Progress.{Progress}
use Rattle.mq_jsonl.specs.Reading.{reading}
use Rattle.mq_run.specs.Output.{output, whole_output, world_after, command_text, text_of}
use Rattle.mq_run.specs.Output.{text_of_lines, is_refused, refused_from}
use Rattle.mq_jsonl.specs.Lines.{all_lines, command_in, whole_lines}
use Rattle.mq_jsonl.specs.Feeding.{Holds}
use Rattle.mq_run.specs.Ending.{AppendsSome, WritesLines}

abbrev pub next_or : World → Option Request → World
next_or w None = w
next_or w (Some request) = next w request

-- the world after one more line
unfoldable pub world_then : World → List ℕ → World
world_then w line = next_or w (command_in (reading line))

-- command k was answered in a text, as refused or not
pub record IsAnswered (k : ℕ) (w : World) (request : Request) (was_refused : Bool) (router : State)
    (old new : List ℕ) : Type 0 where
  pub text : new ≡ old ++ command_text k w request (refusal w request)
  pub refused : was_refused ≡ is_some (refusal w request)
  pub stands : StandsFor router (next w request)

-- line k was answered in a text, as refused or not
pub record IsSoFar (k : ℕ) (w : World) (line : List ℕ) (was_refused : Bool) (router : State)
    (old new : List ℕ) : Type 0 where
  pub text : new ≡ old ++ text_of k w line
  pub refused : was_refused ≡ is_refused w line
  pub stands : StandsFor router (world_then w line)

-- the line that was at hand is answered
pub record Answered (w : World) (old new : Progress) (before after : Option (List ℕ)) : Type 0 where
  pub stands : StandsFor new.router (world_then w old.feeder.line.items)
  pub refused : new.summary.refused ≡ old.summary.refused
      + (if is_refused w old.feeder.line.items then 1 else 0)
  pub written : Appends before after (text_of (old.summary.lines + 1) w old.feeder.line.items)

-- it isn't
abbrev pub Unanswered : World → Progress → RunFault → (before after : Option (List ℕ)) → Type 0
Unanswered w old fault.Read before after = ⊥
Unanswered w old fault.TooMuch before after = ⊥
Unanswered w old fault.Write before after =
    AppendsSome before after (text_of (old.summary.lines + 1) w old.feeder.line.items)
Unanswered w old fault.Memory before after = Appends before after []

-- these lines are answered
pub record AreAnswered (w : World) (done : List (List ℕ)) (p : Progress)
    (before after : Option (List ℕ)) : Type 0 where
  pub stands : StandsFor p.router (world_after w done)
  pub lines : p.summary.lines ≡ length done
  pub refused : p.summary.refused ≡ refused_from w [] done
  pub written : Appends before after (text_of_lines w done)

-- the whole lines of what was given are, and what follows them is kept
pub record SoFar (w : World) (given : List ℕ) (p : Progress) (before after : Option (List ℕ)) :
    Type 0 where
  pub answered : AreAnswered w (whole_lines given) p before after
  pub line : Holds given p.feeder

-- a run stopped among what was given
abbrev pub Stopped : World → (given : List ℕ) → RunFault → (before after : Option (List ℕ)) → Type 0
Stopped w given fault.Read before after = ⊥
Stopped w given fault.TooMuch before after = ⊥
Stopped w given fault.Write before after = AppendsSome before after (whole_output w given)
Stopped w given fault.Memory before after = WritesLines w given before after

-- a run stopped at the last piece
abbrev pub StoppedLast : World → (given : List ℕ) → RunFault → (before after : Option (List ℕ))
    → Type 0
StoppedLast w given fault.Read before after = ⊥
StoppedLast w given fault.TooMuch before after = ⊥
StoppedLast w given fault.Write before after = AppendsSome before after (output w given)
StoppedLast w given fault.Memory before after = WritesLines w given before after

-- ## What a call makes of a run, and of what its writer had taken

-- the line that is at hand is answered
unfoldable pub AnswersLine : (old new : Progress) (before after : Option (List ℕ)) → Type 0
AnswersLine old new before after = (w : World) → StandsFor old.router w
    → Answered w old new before after

-- or it isn't
unfoldable pub StopsAtLine : Progress → RunFault → (before after : Option (List ℕ)) → Type 0
StopsAtLine old e before after = (w : World) → StandsFor old.router w
    → Unanswered w old e before after

abbrev pub Answers : {T : Type 0} → (old new : Progress) → Result T RunFault
    → (before after : Option (List ℕ)) → Type 0
Answers old new result before after =
    MatchResult result (λ _. AnswersLine old new before after) (λ e. StopsAtLine old e before after)

-- more bytes are given, and the lines that they end are answered
unfoldable pub TakesBytes : (old new : Progress) → List ℕ → (before after : Option (List ℕ))
    → Type 0
TakesBytes old new bytes before after = (w : World) (given : List ℕ) (start : Option (List ℕ))
    → SoFar w given old start before → SoFar w (given ++ bytes) new start after

-- or the run stops among them
unfoldable pub StopsAmong : Progress → List ℕ → RunFault → (before after : Option (List ℕ)) → Type 0
StopsAmong old bytes e before after = (w : World) (given : List ℕ) (start : Option (List ℕ))
    → SoFar w given old start before → Stopped w (given ++ bytes) e start after

abbrev pub Takes : {T : Type 0} → (old new : Progress) → List ℕ → Result T RunFault
    → (before after : Option (List ℕ)) → Type 0
Takes old new bytes result before after =
    MatchResult result (λ _. TakesBytes old new bytes before after)
    (λ e. StopsAmong old bytes e before after)

-- no more bytes come, and a last piece is answered
unfoldable pub EndsLines : (old new : Progress) (before after : Option (List ℕ)) → Type 0
EndsLines old new before after = (w : World) (given : List ℕ) (start : Option (List ℕ))
    → SoFar w given old start before → AreAnswered w (all_lines given) new start after

-- or the run stops there
unfoldable pub StopsLast : Progress → RunFault → (before after : Option (List ℕ)) → Type 0
StopsLast old e before after = (w : World) (given : List ℕ) (start : Option (List ℕ))
    → SoFar w given old start before → StoppedLast w given e start after

abbrev pub Ends : {T : Type 0} → (old new : Progress) → Result T RunFault
    → (before after : Option (List ℕ)) → Type 0
Ends old new result before after =
    MatchResult result (λ _. EndsLines old new before after) (λ e. StopsLast old e before after)

-- all that the reader gives was taken
pub record TakesAll (limit : ℕ) (old new : Progress) (given : List ℕ)
    (left before after : Option (List ℕ)) : Type 0 where
  pub ended : IsAtEnd left
  pub within : length given ≤ limit
  pub taken : TakesBytes old new given before after
