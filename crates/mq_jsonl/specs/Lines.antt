-- The lines of a script, how much of one is kept, and the commands that they say.
use Rattle.std.specs.Prelude.{ℕ, ◌+◌, List, [], ◌∷◌, ◌++◌, ◌==◌, Bool, Option, None, Result}
use Rattle.std.specs.Prelude.{Ok, Err, unwrap_or}
use Rattle.std.specs.List.{slice_split, last_or}
use Rattle.mq_world.specs.World.{Request}
use Rattle.mq_jsonl.specs.declared.fault.LineFault.{LineFault}
use Rattle.mq_jsonl.specs.Reading.{line_limit}

abbrev pub is_feed : ℕ → Bool
is_feed b = b == 10

-- the pieces between the line feeds, empty ones too
abbrev pub pieces : List ℕ → List (List ℕ)
pieces s = slice_split is_feed s

abbrev pub all_but_last : {X : Type 0} → List X → List X
all_but_last [] = []
all_but_last (x ∷ []) = []
all_but_last (x ∷ y ∷ xs) = x ∷ all_but_last (y ∷ xs)

-- each line that a line feed ends
abbrev pub whole_lines : List ℕ → List (List ℕ)
whole_lines s = all_but_last (pieces s)

-- what follows the last line feed
abbrev pub last_piece : List ℕ → List ℕ
last_piece s = unwrap_or (last_or None (pieces s)) []

-- a last piece is a line if it isn't empty
abbrev pub piece_line : List ℕ → List (List ℕ)
piece_line [] = []
piece_line (b ∷ bs) = (b ∷ bs) ∷ []

abbrev pub all_lines : List ℕ → List (List ℕ)
all_lines s = whole_lines s ++ piece_line (last_piece s)

-- the command of a line, if it has one
abbrev pub command_in : Result (Option Request) LineFault → Option Request
command_in (Ok command) = command
command_in (Err fault) = None

-- how much of a line is kept: one byte more than a line may have
unfoldable pub kept : ℕ
kept = line_limit + 1
