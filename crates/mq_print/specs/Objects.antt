-- JSON objects as they are printed, one a line: their names stand in ascending order.
use Rattle.std.specs.Prelude.{ℕ, List, [], ◌∷◌, ◌++◌, Option, Some, None, string_bytes}
use Rattle.std.specs.Prelude.{map, true, codes}
use Rattle.std.specs.Option.{option_copied, option_map}
use denote.Ref.{Bor}
use Rattle.serde_json.specs.Data.{Data, null, boolean, number, unsigned, string, array, object}
use Rattle.serde_json.specs.Data.{Members, no_members, put}
use Rattle.serde_json.specs.View.{items_of}
use Rattle.serde_json.specs.Written.{compact_text}
use Rattle.mq_print.specs.Lists.{LineView, line_view}
use Rattle.mq_print.specs.Shown.{shown}
use Rattle.mq_print.specs.declared.escape.Escape.TheVariants.{Json}
use Rattle.mq_print.specs.declared.json.Datum.{Datum}
use Rattle.mq_print.specs.declared.json.Datum.TheVariants as datum
use Rattle.mq_print.specs.declared.json.Exception.{Exception}

abbrev pub whole_data : ℕ → Data
whole_data n = number (unsigned n)

abbrev pub number_data : Option ℕ → Data
number_data None = null
number_data (Some n) = whole_data n

abbrev pub text_data : Option (List ℕ) → Data
text_data None = null
text_data (Some text) = string text

-- a line of a list: its file, its number and its text
abbrev pub line_data : Option LineView → Data
line_data None = null
line_data (Some line) = object (
    put (codes "text") (string line.text) (
    put (codes "line") (whole_data line.number) (
    put (codes "file") (string line.file) no_members)))

-- what a client may not
abbrev pub exception_data : Exception → Data
exception_data it = object (
    put (codes "user") (text_data (option_copied it.user)) (
    put (codes "topic") (string it.topic.now) (
    put (codes "line") (line_data (option_map line_view it.line)) (
    put (codes "client") (string it.client.now) no_members))))

-- what stands under a name
abbrev pub datum_data : Datum → Data
datum_data (datum.Text text) = string text.now
datum_data (datum.TextIf text) = text_data (option_copied text)
datum_data (datum.Texts texts) =
    array (items_of (map (λ text. string (string_bytes text)) texts.now))
datum_data (datum.Number n) = whole_data n
datum_data (datum.NumberIf n) = number_data n
datum_data (datum.Flag flag) = boolean flag
datum_data (datum.LineIf line) = line_data (option_map line_view line)
datum_data (datum.Exceptions all) = array (items_of (map exception_data all.now))

-- the members, with these behind them
abbrev pub with_data : Members → List (Bor (List ℕ) × Datum) → Members
with_data members [] = members
with_data members (d ∷ ds) = with_data (put d.0.now (datum_data d.1) members) ds

-- an object of these members, as it is printed
abbrev pub object_text : Members → List ℕ
object_text members = shown true Json (compact_text (object members)) ++ 10 ∷ []
