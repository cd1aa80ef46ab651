-- Which files of a question are standard input.
use Rattle.std.specs.Prelude.{ℕ, Bool, List, [], ◌∷◌, Option, Some, None, codes, count_by}
use Rattle.std.specs.Str.{bytes_eq}

-- the file is standard input
abbrev pub is_input : (file : List ℕ) → Bool
is_input file = bytes_eq file (codes "-")

-- how many of these files are
abbrev pub input_count : (files : List (List ℕ)) → ℕ
input_count files = count_by is_input files

-- the file of a script, if there is one
abbrev pub script_file : (script : Option (List ℕ)) → List (List ℕ)
script_file None = []
script_file (Some script) = script ∷ []
