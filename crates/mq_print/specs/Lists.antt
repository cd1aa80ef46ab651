-- The lines of access lists.
use Rattle.std.specs.Prelude.{ℕ, List, [], Option, map, get_or, ◌-◌, ◌==◌}
use Rattle.std.specs.List.{slice_split}
use Rattle.std.specs.Option.{option_map}
use Rattle.std.specs.Str.{trim}
use denote.Ref.{Bor}
use Rattle.mq_print.specs.declared.list.Line.{Line}
use Rattle.mq_print.specs.declared.list.Lines.{Lines}
use Rattle.mq_print.specs.declared.list.ListText.{ListText}

-- the lines of a text
abbrev pub lines : List ℕ → List (List ℕ)
lines text = slice_split (λ b. b == 10) text

abbrev pub lent_texts : List (Bor (List ℕ)) → List (List ℕ)
lent_texts all = map (λ text. text.now) all

-- the line with this number, from 1, as it stands; empty where there is none
abbrev pub line_at : ℕ → List (List ℕ) → List ℕ
line_at number all = get_or all (number - 1) []

-- a line as it is shown: the file of its list, its number, and its text without the blanks round it
pub record LineView : Type 0 where
  pub file : List ℕ
  pub number : ℕ
  pub text : List ℕ

abbrev pub line_view : Line → LineView
line_view line = record { file = line.file.now; number = line.number; text = line.text.now }

-- a list: its file, and its lines
pub record ListView : Type 0 where
  pub file : List ℕ
  pub lines : List (List ℕ)

abbrev pub list_view : ListText → ListView
list_view list = record { file = list.file.now; lines = lines list.text.now }

abbrev pub lines_view : Lines → ListView
lines_view list = record { file = list.file.now; lines = lent_texts list.lines.now }

-- its line with this number, if there is one
abbrev pub shown_line : ListView → Option ℕ → Option LineView
shown_line list number = option_map
    (λ n. record { file = list.file; number = n; text = trim (line_at n list.lines) }) number
