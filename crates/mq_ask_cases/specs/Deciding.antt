-- What decides in a list, in words.
use Rattle.std.specs.Fmt.{decimal}
use Rattle.std.specs.List.{list_any}
use Rattle.std.specs.Prelude.{ℕ, Bool, true, false, not, ◌||◌, ◌==◌, List, ◌++◌, Option, Some, None}
use Rattle.std.specs.Prelude.{codes, string_bytes}
use Rattle.std.specs.Str.{trim}
use Rattle.mq_ask_cases.specs.declared.deciding.Side.{Side}
use Rattle.mq_differences.specs.Reasons.{deciding_line}
use Rattle.mq_differences.specs.declared.reason.Reason.{Reason}
use Rattle.mq_differences.specs.declared.reason.Reason.TheVariants.{Broker, Deny, Grant, NoGrant}
use Rattle.mq_print.specs.Lists.{ListView, line_at}

-- what decides: where it stands, what it says, and whether it is a line
pub record SideView : Type 0 where
  pub place : List ℕ
  pub words : List ℕ
  pub is_line : Bool

abbrev pub side_view : Side → SideView
side_view side = record {
  place = string_bytes side.place;
  words = side.words.now;
  is_line = side.is_line;
}

-- a `+` or a `#` is in it
abbrev pub has_wildcard : List ℕ → Bool
has_wildcard text = list_any (λ b. b == 43 || b == 35) text

-- it is a line with a wildcard, or no line: it may decide about several topics
abbrev pub may_have_several : SideView → Bool
may_have_several side = not side.is_line || has_wildcard side.words

-- that no line decides
abbrev pub undecided_words : Reason → List ℕ
undecided_words Broker = codes "mosquitto refuses it, whatever the list says"
undecided_words NoGrant = codes "no line allows it"
undecided_words (Deny line) = codes "no line allows it"
undecided_words (Grant line) = codes "no line allows it"

-- the line with this number, without the blanks round it, or these words where none decides
abbrev pub decided : ListView → Option ℕ → (words : List ℕ) → SideView
decided list (Some line) words = record {
  place = list.file ++ codes ":" ++ decimal line;
  words = trim (line_at line list.lines);
  is_line = true;
}
decided list None words = record { place = list.file; words = words; is_line = false }

-- what decides in the list
abbrev pub decision : ListView → Reason → SideView
decision list reason = decided list (deciding_line reason) (undecided_words reason)
