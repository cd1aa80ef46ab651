-- The verdicts in JUnit's XML: a test suite, of which each line that is judged is a case.
use Rattle.std.specs.Prelude.{◌≡◌, ◌++◌, ◌==◌, ◌||◌, ◌&&◌, ℕ, Bool, true, false, not, nat_lt}
use Rattle.std.specs.Prelude.{List, [], ◌∷◌, All, codes, count_by, length, map}
use Rattle.std.specs.Prelude.{Option, Some, None, unwrap_or, if◌then◌else◌}
use Rattle.std.specs.Char.{encode_utf8}
use Rattle.std.specs.Fmt.{digits}
use Rattle.std.specs.List.{before_first, flat_map}
use Rattle.std.specs.Option.{option_or}
use Rattle.std.specs.Str.{chars, trim}
use Rattle.mq_acl.specs.declared.rules.Rules.{Rules}
use Rattle.mq_acl.specs.declared.rules.Rules.TheVariants.{Own, Mosquitto}
use Rattle.mq_ask.specs.Notes.{limited_to}
use Rattle.mq_ask_test.specs.Findings.{IsVerdict, is_holds}
use Rattle.mq_ask_test.specs.Questions.{Question, asked_view}
use Rattle.mq_ask_test.specs.declared.list.ReadList.{ReadList}
use Rattle.mq_ask_test.specs.declared.verdicts.Verdict.{Verdict}
use Rattle.mq_print.specs.Lists.{ListView, line_at}
use Rattle.mq_print.specs.Shown.{shown}
use Rattle.mq_print.specs.declared.escape.Escape.TheVariants.{Words}

-- ## Texts in XML
-- XML's own marks, by their names
abbrev pub named : (c : ℕ) → Option (List ℕ)
named c =
    if c == 38 then Some (codes "&amp;")
    else if c == 60 then Some (codes "&lt;")
    else if c == 62 then Some (codes "&gt;")
    else if c == 34 then Some (codes "&quot;")
    else None

-- a tab, a line feed and a carriage return, by their numbers
abbrev pub numbered : (c : ℕ) → Option (List ℕ)
numbered c = if c == 9 || c == 10 || c == 13
    then Some (codes "&#" ++ digits 10 false c ++ codes ";") else None

-- the other control characters, and two more: XML has no place for them, and U+FFFD is in theirs
abbrev pub has_no_place : (c : ℕ) → Bool
has_no_place c = nat_lt c 32 || c == 65534 || c == 65535

abbrev pub replaced : (c : ℕ) → Option (List ℕ)
replaced c = if has_no_place c then Some (encode_utf8 65533) else None

-- what stands for a character that can't stand for itself: in a text a tab and a line feed can
abbrev pub escape_of : (in_attribute : Bool) → (c : ℕ) → Option (List ℕ)
escape_of in_attribute c = if not in_attribute && (c == 9 || c == 10) then None
    else option_or (named c) (option_or (numbered c) (replaced c))

abbrev pub escaped_char : (in_attribute : Bool) → (c : ℕ) → List ℕ
escaped_char in_attribute c = unwrap_or (escape_of in_attribute c) (encode_utf8 c)

abbrev pub escaped : (in_attribute : Bool) → (text : List ℕ) → List ℕ
escaped in_attribute text = flat_map (escaped_char in_attribute) (chars text)

-- ## Elements
abbrev pub attribute : (name value : List ℕ) → List ℕ
attribute name value = codes " " ++ name ++ codes "=\"" ++ escaped true value ++ codes "\""

abbrev pub number_attribute : (name : List ℕ) → ℕ → List ℕ
number_attribute name n = codes " " ++ name ++ codes "=\"" ++ digits 10 false n ++ codes "\""

-- how many lines are judged, and how many don't hold
abbrev pub counts : List Verdict → List ℕ
counts all = number_attribute (codes "tests") (length all)
    ++ number_attribute (codes "failures") (count_by (λ v. not (is_holds v.finding)) all)
    ++ codes " errors=\"0\" skipped=\"0\">\n"

-- what begins the suite, which has the name of the file of expectations
abbrev pub suite_begin : (file : List ℕ) → List Verdict → List ℕ
suite_begin file all =
    codes "<?xml version=\"1.0\" encoding=\"UTF-8\"?>\n<testsuites>\n  <testsuite"
    ++ attribute (codes "name") file ++ counts all

abbrev pub suite_end : List ℕ
suite_end = codes "  </testsuite>\n</testsuites>\n"

-- by mosquitto's rules it says for which clients the verdicts are
abbrev pub properties : Rules → List ℕ
properties Own = []
properties Mosquitto = codes "    <properties>\n      <property name=\"limited_to\""
    ++ attribute (codes "value") limited_to
    ++ codes "/>\n    </properties>\n"

-- a line of the file of expectations: its text, and where it stands
abbrev pub line_attributes : ListView → (number : ℕ) → List ℕ
line_attributes expectations number =
    attribute (codes "name") (trim (line_at number expectations.lines))
    ++ attribute (codes "file") expectations.file ++ number_attribute (codes "line") number

-- a case: the list of which the line is judged, if there is one, and the line
abbrev pub case_begin : ListView → Question → List ℕ
case_begin expectations q = codes "    <testcase"
    ++ attribute (codes "classname") (unwrap_or q.list []) ++ line_attributes expectations q.line

-- how it ends: where the line doesn't hold, with why, of which the first line is the message
abbrev pub case_end : (holds : Bool) → (why : List ℕ) → List ℕ
case_end true why = codes "/>\n"
case_end false why = codes ">\n      <failure"
    ++ attribute (codes "message") (before_first (λ b. b == 10) (trim why))
    ++ codes ">" ++ escaped false why ++ codes "</failure>\n    </testcase>\n"

-- that of a verdict, with some words that say why it doesn't hold
abbrev pub case_text : ListView → Verdict → (why : List ℕ) → List ℕ
case_text expectations v why =
    case_begin expectations (asked_view v.asked) ++ case_end (is_holds v.finding) why

-- ## The whole
-- the text is that of the cases of these verdicts, one behind the other
abbrev pub AreCases : ListView → List Verdict → (text : List ℕ) → Type 0
AreCases expectations [] text = text ≡ []
AreCases expectations (v ∷ vs) text = (why : List ℕ) × (rest : List ℕ)
    × (text ≡ case_text expectations v why ++ rest) × AreCases expectations vs rest

-- the text is that of the suite of these verdicts, as texts are shown
pub record IsSuite (rules : Rules) (expectations : ListView) (all : List Verdict)
    (text : List ℕ) : Type 0 where
  pub cases : List ℕ
  pub are : AreCases expectations all cases
  pub text_is : text ≡ shown true Words
      (suite_begin expectations.file all ++ properties rules ++ cases ++ suite_end)

-- and the verdicts are those of what is asked of these lists
pub record IsSuiteShown (rules : Rules) (lists : List ReadList) (expectations : ListView)
    (all : List Question) (text : List ℕ) : Type 0 where
  pub verdicts : List Verdict
  pub asked : map (λ v. asked_view v.asked) verdicts ≡ all
  pub are : All (IsVerdict rules lists) verdicts
  pub suite : IsSuite rules expectations verdicts text
