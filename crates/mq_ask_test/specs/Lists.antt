-- The lists that expectations are judged of.
use Rattle.std.specs.Prelude.{ℕ, Bool, List, Option, find}
use Rattle.std.specs.Option.{option_map}
use Rattle.std.specs.Str.{bytes_eq}
use Rattle.mq_acl.specs.declared.row.Row.{Row}
use Rattle.mq_ask_test.specs.declared.list.ReadList.{ReadList}

abbrev pub is_in : List ℕ → ReadList → Bool
is_in file read = bytes_eq read.list.file.now file

-- the rows of the list in this file: the first, if some have its name
abbrev pub rows_in : List ReadList → List ℕ → Option (List Row)
rows_in lists file = option_map (λ read. read.rows.items) (find (is_in file) lists)
