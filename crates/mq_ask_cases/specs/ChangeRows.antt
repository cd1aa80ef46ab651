-- A table of what changes, in words.
use Rattle.std.specs.List.{flat_map, list_all, zip}
use Rattle.std.specs.Option.{option_map}
use Rattle.std.specs.Prelude.{ℕ, Bool, true, List, [], ◌∷◌, ◌++◌, Option, Some, None}
use Rattle.std.specs.Prelude.{codes, if◌then◌else◌, map, max, string_bytes}
use Rattle.std.specs.Str.{bytes_eq}
use Rattle.std.specs.declared.alloc.Global.{Global}
use Rattle.std.specs.declared.string.String.{String}
use denote.Ref.{Bor}
use Rattle.mq_acl.specs.declared.access.Direction.{Direction}
use Rattle.mq_ask.specs.Words.{access_text}
use Rattle.mq_ask_cases.specs.Deciding.{SideView, may_have_several, side_view}
use Rattle.mq_ask_cases.specs.declared.change_rows.ChangeRow.{ChangeRow}
use Rattle.mq_differences.specs.declared.way.Way.{Way}
use Rattle.mq_differences.specs.declared.way.Way.TheVariants.{Gained, Lost}
use Rattle.mq_print.specs.Columns.{cell, width_of}
use Rattle.mq_print.specs.Shown.{shown}
use Rattle.mq_print.specs.declared.escape.Escape.TheVariants.{Words}

-- a row: whose access changes, how, to which topic, what decides that, and if publishes are counted,
-- of which script and how many
pub record ChangeView : Type 0 where
  pub who : List ℕ
  pub way : Way
  pub direction : Direction
  pub topic : List ℕ
  pub sides : List SideView
  pub publishes : Option (List ℕ × List ℕ)

abbrev pub publishes_view : Option (Bor (List ℕ) × String Global) → Option (List ℕ × List ℕ)
publishes_view publishes = option_map (λ of. (of.0.now, string_bytes of.1)) publishes

abbrev pub change_view : ChangeRow → ChangeView
change_view row = record {
  who = string_bytes row.who;
  way = row.way;
  direction = row.direction;
  topic = string_bytes row.topic;
  sides = map side_view row.sides.items;
  publishes = publishes_view row.publishes;
}

-- what changes
abbrev pub access_words : Direction → Way → List ℕ
access_words direction Gained = codes "may now " ++ access_text direction
access_words direction Lost = codes "may no longer " ++ access_text direction

abbrev pub access_of : ChangeView → List ℕ
access_of row = access_words row.direction row.way

-- the script
abbrev pub script_of : Option (List ℕ × List ℕ) → List (List ℕ)
script_of None = []
script_of (Some publishes) = publishes.0 ∷ []

-- what stands in the column of places: that of each that decides, and the script
abbrev pub places_of : ChangeView → List (List ℕ)
places_of row = map (λ side. side.place) row.sides ++ script_of row.publishes

-- how wide a column of these texts is: as the widest of them
abbrev pub widest : List (List ℕ) → ℕ
widest [] = 0
widest (text ∷ texts) = max (width_of text) (widest texts)

-- the columns of these rows
abbrev pub access_width : List ChangeView → ℕ
access_width rows = widest (map access_of rows)

abbrev pub place_width : List ChangeView → ℕ
place_width rows = widest (flat_map places_of rows)

-- green for what is gained, red for what is lost
abbrev pub colour : Way → List ℕ
colour Gained = 27 ∷ codes "[32m"
colour Lost = 27 ∷ codes "[31m"

-- what changes, in its column, and in colour if that is wanted
abbrev pub access_cell : (coloured : Bool) → (width : ℕ) → ChangeView → List ℕ
access_cell coloured width row = if coloured
    then colour row.way ++ cell width (access_of row) ++ 27 ∷ codes "[0m"
    else cell width (access_of row)

-- a line below a topic
abbrev pub line_below : (width : ℕ) → (place words : List ℕ) → List ℕ
line_below width place words = codes "    " ++ cell width place ++ words ++ 10 ∷ []

abbrev pub side_line : (width : ℕ) → SideView → List ℕ
side_line width side = line_below width side.place side.words

abbrev pub publishes_line : (width : ℕ) → Option (List ℕ × List ℕ) → List ℕ
publishes_line width None = []
publishes_line width (Some publishes) = line_below width publishes.0 publishes.1

-- the topic is one of several, where nothing decides about it alone
abbrev pub example_words : List SideView → List ℕ
example_words sides = if list_all may_have_several sides then codes "for example " else []

-- the topic, and below it what decides, and the publishes
abbrev pub topic_words : (width : ℕ) → ChangeView → List ℕ
topic_words width row = example_words row.sides ++ row.topic ++ 10 ∷ []
    ++ flat_map (side_line width) row.sides ++ publishes_line width row.publishes

-- a row, in columns of these widths
abbrev pub row_text : (coloured : Bool) → (accesses places : ℕ) → ChangeView → List ℕ
row_text coloured accesses places row = codes "  " ++ access_cell coloured accesses row
    ++ shown true Words (topic_words places row)

-- whom the rows that follow are about, unless those before are about the same
abbrev pub who_line : (before who : List ℕ) → List ℕ
who_line before who = if bytes_eq who before then [] else who ++ 10 ∷ []

-- each row, with whom the row before it is about
abbrev pub with_before : (before : List ℕ) → List ChangeView → List (List ℕ × ChangeView)
with_before before rows = zip (before ∷ map (λ row. row.who) rows) rows

-- the rows, each with this text, behind whom it is about
abbrev pub rows_text : (text_of : ChangeView → List ℕ) → (before : List ℕ) → List ChangeView
    → List ℕ
rows_text text_of before rows =
    flat_map (λ row. who_line row.0 row.1.who ++ text_of row.1) (with_before before rows)

-- a table of these rows, each column as wide as it needs to be
abbrev pub table_text : (coloured : Bool) → List ChangeView → List ℕ
table_text coloured rows =
    rows_text (row_text coloured (access_width rows) (place_width rows)) [] rows
