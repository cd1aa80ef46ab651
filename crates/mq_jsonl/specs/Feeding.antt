-- A script that is given in pieces, and taken line by line.
use Rattle.std.specs.Prelude.{◌≡◌, ℕ, List, [], ◌∷◌, ◌++◌, take, if◌then◌else◌}
use Rattle.mq_jsonl.specs.Lines.{kept, last_piece, whole_lines}
use Rattle.mq_jsonl.specs.declared.line_feeder.LineFeeder.{LineFeeder}

-- how many bytes a script may have
unfoldable pub script_limit : ℕ
script_limit = 4294967296

-- what is kept of the line that has not ended yet
abbrev pub open_line : LineFeeder → List ℕ
open_line f = if f.is_whole then [] else f.line.items

-- of the bytes that were given, what follows the last line feed is kept
abbrev pub Holds : (given : List ℕ) → LineFeeder → Type 0
Holds given f = open_line f ≡ take kept (last_piece given)

-- behind some lines there is one more, and what is kept of it is at hand
pub record HasNext (lines all : List (List ℕ)) (f : LineFeeder) : Type 0 where
  pub line : List ℕ
  pub next : all ≡ lines ++ line ∷ []
  pub at_hand : f.line.items ≡ take kept line

-- whatever was given before, these bytes end one line more
unfoldable pub EndsLine : (old new : LineFeeder) → List ℕ → Type 0
EndsLine old new bytes = (given : List ℕ) → Holds given old
    → HasNext (whole_lines given) (whole_lines (given ++ bytes)) new × Holds (given ++ bytes) new

-- a front of the bytes does, and these others follow it
abbrev pub EndsFirst : (old new : LineFeeder) → (bytes others : List ℕ) → Type 0
EndsFirst old new bytes others =
    (front : List ℕ) × (bytes ≡ front ++ others) × EndsLine old new front

-- whatever was given before, these bytes end no line
unfoldable pub EndsNone : (old new : LineFeeder) → List ℕ → Type 0
EndsNone old new bytes = (given : List ℕ) → Holds given old
    → (whole_lines (given ++ bytes) ≡ whole_lines given) × Holds (given ++ bytes) new
