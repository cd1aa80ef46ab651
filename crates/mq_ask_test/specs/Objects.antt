-- What comes of each line, as JSON: an object for each, and behind them one that says how many hold.
use Rattle.std.specs.Option.{option_and_then, option_copied, option_map, option_map_or}
use Rattle.std.specs.Prelude.{◌≡◌, ◌++◌, All, ℕ, List, [], ◌∷◌, Option, Some, None, codes, count_by}
use Rattle.std.specs.Str.{trim}
use Rattle.std.specs.Prelude.{Result, Ok, find, length, map, string_bytes}
use Rattle.mq_acl.specs.declared.rules.Rules.{Rules}
use Rattle.mq_ask.specs.Objects.{limit_by}
use Rattle.mq_ask.specs.Words.{access_text}
use Rattle.mq_ask_test.specs.Findings.{IsVerdict, is_holds}
use Rattle.mq_ask_test.specs.Lists.{is_in}
use Rattle.mq_ask_test.specs.Questions.{Question, asked_view}
use Rattle.mq_ask_test.specs.declared.case.Case.{Case}
use Rattle.mq_ask_test.specs.declared.case.Decided.{Decided}
use Rattle.mq_ask_test.specs.declared.finding.Finding.{Finding}
use Rattle.mq_ask_test.specs.declared.finding.Finding.TheVariants as found
use Rattle.mq_ask_test.specs.declared.list.ReadList.{ReadList}
use Rattle.mq_ask_test.specs.declared.objects.Shown.{Shown}
use Rattle.mq_ask_test.specs.declared.verdicts.Verdict.{Verdict}
use Rattle.mq_differences.specs.Classes.{user_of}
use Rattle.mq_differences.specs.Reasons.{deciding_line}
use Rattle.mq_differences.specs.declared.difference.Difference.{Difference}
use Rattle.mq_differences.specs.declared.reason.Reason.{Reason}
use Rattle.mq_expect.specs.Expectations.{AtLeast, AtMost, Entry}
use Rattle.mq_expect.specs.declared.fault.ExpectationKind.{ExpectationKind}
use Rattle.mq_print.specs.Lists.{LineView, ListView, line_at, line_view, lines, list_view, shown_line}
use Rattle.mq_print.specs.Objects.{line_data, object_text, text_data, whole_data}
use Rattle.serde_json.specs.Data.{Members, array, boolean, no_members, put, string}
use Rattle.serde_json.specs.View.{items_of}

-- ## The client and the topic that show it
-- them, if some do, the line that decides in the list, and that of the list that it is compared with
pub record Example : Type 0 where
  pub shown : Option Difference
  pub decided : Option LineView
  pub other : Option LineView

-- the list in this file
abbrev pub list_at : List ReadList → (file : List ℕ) → ListView
list_at lists file = option_map_or (λ read. list_view read.list) (find (is_in file) lists)
    (record { file = file; lines = lines [] })

-- its line that decides, if one does
abbrev pub decided_in : List ReadList → (file : List ℕ) → Reason → Option LineView
decided_in lists file reason = shown_line (list_at lists file) (deciding_line reason)

-- the file behind `at most` or `at least`
abbrev pub bound_of : Result Entry ExpectationKind → Option (List ℕ)
bound_of (Ok (AtMost file)) = Some file
bound_of (Ok (AtLeast file)) = Some file
bound_of says = None

abbrev pub example_by : List ReadList → Option (List ℕ) → Result Entry ExpectationKind → Finding
    → Example
example_by lists (Some file) says (found.Fails d) =
    record { shown = Some d; decided = decided_in lists file d.old_reason; other = None }
example_by lists (Some file) says (found.Differs d) = record {
  shown = Some d;
  decided = decided_in lists file d.new_reason;
  other = option_and_then (λ bound. decided_in lists bound d.old_reason) (bound_of says);
}
example_by lists list says finding = record { shown = None; decided = None; other = None }

abbrev pub example_of : List ReadList → Question → Finding → Example
example_of lists q finding = example_by lists q.list q.says finding

-- that of a case, if there is one
abbrev pub decided_line : Decided → Option LineView
decided_line d = shown_line (list_view d.list) (deciding_line d.reason)

abbrev pub case_view : Option Case → Example
case_view None = record { shown = None; decided = None; other = None }
case_view (Some c) = record {
  shown = Some c.shown.now;
  decided = decided_line c.decided;
  other = option_and_then decided_line c.other;
}

abbrev pub shown_view : Shown → Example
shown_view s = record {
  shown = option_copied s.shown;
  decided = option_map line_view s.decided;
  other = option_map line_view s.other;
}

-- ## An object
abbrev pub kind_text : Finding → List ℕ
kind_text found.Holds = codes "holds"
kind_text (found.Fails d) = codes "fails"
kind_text (found.Differs d) = codes "differs"
kind_text (found.NoneMay direction) = codes "none may"
kind_text (found.Unnamed user) = codes "unnamed"
kind_text (found.Refused direction) = codes "refused"
kind_text (found.Fault kind) = codes "fault"
kind_text found.LongLevel = codes "long level"
kind_text found.PartMark = codes "part of a level"
kind_text found.NoList = codes "no list"

abbrev pub verdict_members : ListView → Question → Finding → Example
    → (words : Option (List ℕ)) → Members
verdict_members expectations q finding e words =
    put (codes "words") (text_data words) (
    put (codes "user") (text_data (option_and_then (λ d. user_of d.class) e.shown)) (
    put (codes "topic") (text_data (option_map (λ d. d.topic) e.shown)) (
    put (codes "text") (string (trim (line_at q.line expectations.lines))) (
    put (codes "placeholders") (array (items_of (option_map_or
    (λ d. map (λ text. string (string_bytes text)) d.placeholders.items) e.shown []))) (
    put (codes "other") (line_data e.other) (
    put (codes "list") (text_data q.list) (
    put (codes "line") (whole_data q.line) (
    put (codes "kind") (string (kind_text finding)) (
    put (codes "holds") (boolean (is_holds finding)) (
    put (codes "file") (string expectations.file) (
    put (codes "decided") (line_data e.decided) (
    put (codes "client") (text_data (option_map (λ d. string_bytes d.client) e.shown)) (
    put (codes "access") (text_data (option_map (λ d. access_text d.direction) e.shown))
    no_members)))))))))))))

-- what a verdict is written as, with some words where no client and topic show it
abbrev pub verdict_text : List ReadList → ListView → Verdict → (words : Option (List ℕ)) → List ℕ
verdict_text lists expectations v words = object_text (verdict_members expectations
    (asked_view v.asked) v.finding (example_of lists (asked_view v.asked) v.finding) words)

-- ## The whole
-- the text is that of these verdicts, one behind the other
abbrev pub AreVerdictTexts : List ReadList → ListView → List Verdict → (text : List ℕ) → Type 0
AreVerdictTexts lists expectations [] text = text ≡ []
AreVerdictTexts lists expectations (v ∷ vs) text = (words : Option (List ℕ)) × (rest : List ℕ)
    × (text ≡ verdict_text lists expectations v words ++ rest)
    × AreVerdictTexts lists expectations vs rest

-- how many they are, and how many hold
abbrev pub count_members : List Verdict → Members
count_members all =
    put (codes "hold") (whole_data (count_by (λ v. is_holds v.finding) all)) (
    put (codes "expectations") (whole_data (length all)) no_members)

-- of these verdicts each has its object, behind them is said how many hold, and last for which clients they are
pub record AreTestObjects (rules : Rules) (lists : List ReadList) (expectations : ListView)
    (all : List Verdict) (text : List ℕ) : Type 0 where
  pub verdicts : List ℕ
  pub are : AreVerdictTexts lists expectations all verdicts
  pub text_is : text ≡ (verdicts ++ object_text (count_members all)) ++ limit_by rules

-- and the verdicts are those of what is asked of these lists
pub record AreVerdictsShown (rules : Rules) (lists : List ReadList) (expectations : ListView)
    (all : List Question) (text : List ℕ) : Type 0 where
  pub verdicts : List Verdict
  pub asked : map (λ v. asked_view v.asked) verdicts ≡ all
  pub are : All (IsVerdict rules lists) verdicts
  pub objects : AreTestObjects rules lists expectations verdicts text
