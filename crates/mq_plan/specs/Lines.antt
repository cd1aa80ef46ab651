-- What a line of a plan says. Lines and blanks are those of access lists.
use Rattle.std.specs.Prelude.{ℕ, Bool, List, length, take, drop, ◌==◌, ◌&&◌, ◌||◌, not}
use Rattle.std.specs.Prelude.{codes, find, slice_index, if◌then◌else◌, Option, Some, None}
use Rattle.std.specs.List.{range_with_len}
use Rattle.std.specs.Str.{bytes_eq}
use Rattle.mq_acl.specs.Words.{after_word, first_word, is_blank, trimmed}

-- what a line says, its sides as they are written
pub data Entry : Type 0 where
  Skipped : Entry
  Renamed : (left right : List ℕ) → Entry
  Kept : (left : List ℕ) → Entry
  Gone : (left : List ℕ) → Entry
  Unread : Entry

-- the text begins with an arrow: a blank, `->`, and a blank or nothing more
abbrev pub is_arrow : List ℕ → Bool
is_arrow text = is_blank (slice_index text 0) && slice_index text 1 == 45
    && slice_index text 2 == 62 && (length text == 3 || is_blank (slice_index text 3))

-- where the first arrow begins
abbrev pub arrow_place : List ℕ → Option ℕ
arrow_place text = find (λ i. is_arrow (drop i text)) (range_with_len 0 (length text))

-- a line that begins with `#`, unless its first two words are `#` and `->`
abbrev pub is_comment : List ℕ → Bool
is_comment text = slice_index text 0 == 35
    && not (bytes_eq (first_word text) (codes "#")
    && bytes_eq (first_word (after_word text)) (codes "->"))

-- a line without an arrow, with this first word and this rest
abbrev pub word_entry : List ℕ → List ℕ → Entry
word_entry word rest =
    if length rest == 0 then Unread
    else (if bytes_eq word (codes "keep") then Kept rest
    else (if bytes_eq word (codes "none") then Gone rest
    else Unread))

abbrev pub divided : List ℕ → Option ℕ → Entry
divided text None = word_entry (first_word text) (after_word text)
divided text (Some place) = Renamed (trimmed (take place text)) (trimmed (drop 3 (drop place text)))

-- a line without the blanks round it
abbrev pub text_entry : List ℕ → Entry
text_entry text =
    if length text == 0 || is_comment text then Skipped else divided text (arrow_place text)

abbrev pub entry_of : List ℕ → Entry
entry_of line = text_entry (trimmed line)
