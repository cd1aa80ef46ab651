-- What a script writes.
use Rattle.std.specs.Prelude.{◌≡◌, ℕ, ◌+◌, List, [], ◌∷◌, ◌++◌, length, Bool, true, false}
use Rattle.std.specs.Prelude.{if◌then◌else◌, Option, Some, None, Result, Ok, Err, is_some}
use Rattle.std.specs.List.{filter_map}
use Rattle.mq_world.specs.World.{World, Request}
use Rattle.mq_world.specs.Refusals.{refusal}
use Rattle.mq_world.specs.Answers.{answer}
use Rattle.mq_world.specs.After.{replay}
use Rattle.mq_world.specs.declared.refusal.Refusal.{Refusal}
use Rattle.mq_jsonl.specs.declared.fault.LineFault.{LineFault}
use Rattle.mq_run.specs.declared.outcome.Summary.{Summary}
use Rattle.mq_jsonl.specs.Lines.{all_lines, command_in, whole_lines}
use Rattle.mq_jsonl.specs.Reading.{reading}
use Rattle.mq_jsonl.specs.Printed.{answer_text, refusal_text, fault_text}

-- ## One line

-- the world after lines: that of their commands
abbrev pub world_after : World → List (List ℕ) → World
world_after w lines = replay w (filter_map (λ line. command_in (reading line)) lines)

abbrev pub command_text : ℕ → World → Request → Option Refusal → List ℕ
command_text k w request None = answer_text k (answer w request)
command_text k w request (Some refused) = refusal_text k refused

abbrev pub reading_text : ℕ → World → Result (Option Request) LineFault → List ℕ
reading_text k w (Ok None) = []
reading_text k w (Ok (Some request)) = command_text k w request (refusal w request)
reading_text k w (Err fault) = fault_text k fault

-- how line k is answered in a world: a blank one by nothing
unfoldable pub text_of : ℕ → World → List ℕ → List ℕ
text_of k w line = reading_text k w (reading line)

abbrev pub refuses_reading : World → Result (Option Request) LineFault → Bool
refuses_reading w (Ok None) = false
refuses_reading w (Ok (Some request)) = is_some (refusal w request)
refuses_reading w (Err fault) = true

-- whether a line is refused in a world
unfoldable pub is_refused : World → List ℕ → Bool
is_refused w line = refuses_reading w (reading line)

-- ## All lines

-- the answers to lines that follow others, each by its number, in the world of all lines before it
abbrev pub text_from : World → List (List ℕ) → List (List ℕ) → List ℕ
text_from w before [] = []
text_from w before (line ∷ lines) =
    text_of (length before + 1) (world_after w before) line
    ++ text_from w (before ++ line ∷ []) lines

-- how many of them are refused
abbrev pub refused_from : World → List (List ℕ) → List (List ℕ) → ℕ
refused_from w before [] = 0
refused_from w before (line ∷ lines) =
    (if is_refused (world_after w before) line then 1 else 0)
    + refused_from w (before ++ line ∷ []) lines

-- what lines write that begin a script
abbrev pub text_of_lines : World → List (List ℕ) → List ℕ
text_of_lines w lines = text_from w [] lines

-- what a script writes
abbrev pub output : World → List ℕ → List ℕ
output w script = text_of_lines w (all_lines script)

-- what it writes up to its last line feed
abbrev pub whole_output : World → List ℕ → List ℕ
whole_output w script = text_of_lines w (whole_lines script)

-- how many lines it has, blank ones counted, and how many of them are refused
pub record Summarizes (w : World) (script : List ℕ) (summary : Summary) : Type 0 where
  pub lines : summary.lines ≡ length (all_lines script)
  pub refused : summary.refused ≡ refused_from w [] (all_lines script)
