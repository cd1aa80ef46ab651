-- What is said of a list, as JSON: an object for each remark on a line, and some of the list as a whole.
use Rattle.std.specs.List.{filter, flat_map, list_any}
use Rattle.std.specs.Option.{option_map}
use Rattle.std.specs.Prelude.{◌≡◌, ◌++◌, ◌∷◌, ◌==◌, ℕ, Bool, List, [], Option, Some, None}
use Rattle.std.specs.Prelude.{codes, if◌then◌else◌, map, not}
use Rattle.std.specs.Str.{trim}
use Rattle.mq_acl.specs.declared.rules.Rules.{Rules}
use Rattle.mq_acl.specs.declared.rules.Rules.TheVariants.{Mosquitto}
use Rattle.mq_ask_lint.specs.Lint.{AreRemarks, is_fault}
use Rattle.mq_ask_lint.specs.declared.lint.Remarks.{Remarks}
use Rattle.mq_lint.specs.Remarks.{remarks_of}
use Rattle.mq_lint.specs.declared.remark.Remark.{Remark}
use Rattle.mq_lint.specs.declared.remark.RemarkKind.{RemarkKind}
use Rattle.mq_lint.specs.declared.remark.RemarkKind.TheVariants.{Fault, NoMark, IndentedComment}
use Rattle.mq_lint.specs.declared.remark.RemarkKind.TheVariants.{Tab, Hidden, Repeats}
use Rattle.mq_lint.specs.declared.remark.RemarkKind.TheVariants.{DeniesNothing, Needless}
use Rattle.mq_print.specs.Lists.{ListView, line_at, list_view}
use Rattle.mq_print.specs.Objects.{number_data, object_text, text_data}
use Rattle.mq_print.specs.declared.list.ListText.{ListText}
use Rattle.serde_json.specs.Data.{Members, no_members, put, string}

-- what is said of a line, or without one of the list as a whole
pub record Said : Type 0 where
  pub kind : List ℕ
  pub line : Option ℕ
  pub other : Option ℕ

-- ---- of a line
abbrev pub kind_text : RemarkKind → List ℕ
kind_text (Fault fault) = codes "fault"
kind_text NoMark = codes "no mark"
kind_text IndentedComment = codes "indented comment"
kind_text Tab = codes "tab"
kind_text Hidden = codes "hidden characters"
kind_text (Repeats line) = codes "repeats"
kind_text DeniesNothing = codes "denies nothing"
kind_text (Needless by) = codes "needless"

-- the line that this one repeats, or that makes it needless
abbrev pub other_line : RemarkKind → Option ℕ
other_line (Repeats line) = Some line
other_line (Needless by) = by
other_line kind = None

abbrev pub remark_said : Remark → Said
remark_said r =
    record { kind = kind_text r.kind; line = Some r.line; other = other_line r.kind }

-- mosquitto doesn't take it
abbrev pub refused_said : Remark → Said
refused_said r = record { kind = codes "not taken"; line = Some r.line; other = None }

-- ---- of the list
abbrev pub whole_said : (kind : List ℕ) → Said
whole_said kind = record { kind = kind; line = None; other = None }

-- the lines of the text that mosquitto doesn't take
abbrev pub refused_lines : (text : List ℕ) → List Remark
refused_lines text = filter (λ r. is_fault r.kind) (remarks_of Mosquitto text)

abbrev pub is_remarked : List Remark → (line : ℕ) → Bool
is_remarked odd line = list_any (λ r. r.line == line) odd

-- those on whose lines nothing else is remarked
abbrev pub unremarked : (odd refused : List Remark) → List Remark
unremarked odd refused = filter (λ r. not (is_remarked odd r.line)) refused

-- where mosquitto doesn't take these lines: that of each of which nothing else is said, and then of the list
abbrev pub all_refused : (odd refused : List Remark) → List Said
all_refused odd [] = []
all_refused odd (r ∷ rs) =
    map refused_said (unremarked odd (r ∷ rs)) ++ whole_said (codes "not taken") ∷ []

abbrev pub empty_said : (is_empty : Bool) → List Said
empty_said is_empty = if is_empty then whole_said (codes "empty") ∷ [] else []

-- all that is said of the list with this text
abbrev pub all_said : (text : List ℕ) → Remarks → List Said
all_said text r = map remark_said r.odd.items ++ map remark_said r.needless.items
    ++ all_refused r.odd.items (refused_lines text) ++ empty_said r.is_empty

-- ---- as JSON
-- each member by its name; what the words say is left open
abbrev pub said_members : ListView → Said → (words : List ℕ) → Members
said_members list said words =
    put (codes "words") (string words) (
    put (codes "text") (text_data (option_map (λ n. trim (line_at n list.lines)) said.line)) (
    put (codes "other") (number_data said.other) (
    put (codes "line") (number_data said.line) (
    put (codes "kind") (string said.kind) (
    put (codes "file") (string list.file) no_members)))))

abbrev pub said_text : ListView → Said → (words : List ℕ) → List ℕ
said_text list said words = object_text (said_members list said words)

-- an object was added for each of these, with some words
pub record AddsObjects (list : ListView) (all : List Said) (before after : List ℕ) : Type 0 where
  pub worded : List (Said × List ℕ)
  pub of_all : map (λ it. it.0) worded ≡ all
  pub text_is : after ≡ before ++ flat_map (λ it. said_text list it.0 it.1) worded

-- an object was added for all that is said of the list by these rules
pub record AddsRemarks (rules : Rules) (list : ListText) (before after : List ℕ) : Type 0 where
  pub found : Remarks
  pub are : AreRemarks rules list.text.now found
  pub objects : AddsObjects (list_view list) (all_said list.text.now found) before after
