-- What a line of a file of expectations says. Lines, words, blanks and comments are those of access
-- lists.
use Rattle.std.specs.Prelude.{ℕ, Bool, true, false, List, length, ◌==◌, ◌||◌, ◌&&◌, not, if◌then◌else◌}
use Rattle.std.specs.Prelude.{[], map, codes, slice_index, Option, Some, None, Result, Ok, Err}
use Rattle.std.specs.List.{list_all, slice_split}
use Rattle.std.specs.Str.{bytes_eq}
use Rattle.mq_topic.specs.Texts.{is_filter, is_shared}
use Rattle.mq_topic.specs.Levels.{levels}
use Rattle.mq_acl.specs.Lines.{Access, Read, Write, ReadWrite, is_pattern_level}
use Rattle.mq_acl.specs.Words.{after_word, first_word, trimmed}
use Rattle.mq_expect.specs.declared.expectation.Holds.{Holds}
use Rattle.mq_expect.specs.declared.expectation.Holds.TheVariants as holds
use Rattle.mq_expect.specs.declared.fault.ExpectationKind.{ExpectationKind}
use Rattle.mq_expect.specs.declared.fault.ExpectationKind.TheVariants as kinds

-- clients: all, those without a user name, those of user names that a list doesn't name, or those of one
pub data Whom : Type 0 where
  Anyone : Whom
  Anonymous : Whom
  Others : Whom
  User : (name : List ℕ) → Whom

-- what clients may, or may not; with the names of those that are excepted, if any are
pub record Claim : Type 0 where
  pub whom : Whom
  pub holds : Holds
  pub access : Access
  pub topics : List ℕ
  pub except : Option (List ℕ)

-- what a line without a fault says; a comment or an empty line is skipped
pub data Entry : Type 0 where
  Skipped : Entry
  InList : (file : List ℕ) → Entry
  AtMost : (file : List ℕ) → Entry
  AtLeast : (file : List ℕ) → Entry
  Claims : (claim : Claim) → Entry

abbrev pub whom_of : List ℕ → Whom
whom_of word =
    if bytes_eq word (codes "anyone") then Anyone
    else (if bytes_eq word (codes "anonymous") then Anonymous
    else (if bytes_eq word (codes "others") then Others
    else User word))

abbrev pub is_anyone : Whom → Bool
is_anyone Anyone = true
is_anyone whom = false

-- `may not`, `may some`, or `may`
abbrev pub holds_of : List ℕ → Holds
holds_of word =
    if bytes_eq word (codes "not") then holds.Never
    else (if bytes_eq word (codes "some") then holds.AtLeastOne
    else holds.Every)

-- what follows `may`, and `not` or `some`
abbrev pub behind_may : List ℕ → List ℕ
behind_may rest =
    if bytes_eq (first_word rest) (codes "not") || bytes_eq (first_word rest) (codes "some") then
    after_word rest else rest

abbrev pub access_named : List ℕ → Option Access
access_named word =
    if bytes_eq word (codes "read") then Some Read
    else (if bytes_eq word (codes "write") then Some Write
    else (if bytes_eq word (codes "readwrite") then Some ReadWrite
    else None))

abbrev pub is_comma : ℕ → Bool
is_comma b = b == 44

-- the pieces between the commas
abbrev pub names_in : List ℕ → List (List ℕ)
names_in text = slice_split is_comma text

-- whom a piece names, but for the blanks round it
abbrev pub named : List ℕ → Whom
named name = whom_of (trimmed name)

-- it names some clients, and not all
abbrev pub is_name : List ℕ → Bool
is_name name = not (length (trimmed name) == 0) && not (is_anyone (named name))

abbrev pub are_names : List ℕ → Bool
are_names text = list_all is_name (names_in text)

-- whom a text of names excepts
abbrev pub excepted : Option (List ℕ) → List Whom
excepted None = []
excepted (Some text) = map named (names_in text)

-- what follows the filter
abbrev pub except_of : Whom → List ℕ → Result (Option (List ℕ)) ExpectationKind
except_of whom rest =
    if length rest == 0 then Ok None
    else (if bytes_eq (first_word rest) (codes "except") && is_anyone whom
    && are_names (after_word rest) then Ok (Some (after_word rest))
    else Err kinds.Except)

-- a claim about these topics, with what follows them
abbrev pub claim_with : Whom → Holds → Access → List ℕ → Result (Option (List ℕ)) ExpectationKind
    → Result Entry ExpectationKind
claim_with whom how access topics (Err kind) = Err kind
claim_with whom how access topics (Ok except) =
    Ok (Claims (record {
      whom = whom;
      holds = how;
      access = access;
      topics = topics;
      except = except;
    }))

-- a topic filter, and no shared subscription: those are no topics
abbrev pub is_unshared : List ℕ → Bool
is_unshared text = not (is_shared text) && is_filter text

-- what follows the access word: the filter, and those that are excepted
abbrev pub claim_of : Whom → Holds → Option Access → List ℕ → Result Entry ExpectationKind
claim_of whom how None rest = Err kinds.Access
claim_of whom how (Some access) rest =
    if not (is_unshared (first_word rest)) then Err kinds.Filter
    else (if list_all is_pattern_level (levels (first_word rest)) then
    claim_with whom how access (first_word rest) (except_of whom (after_word rest))
    else Err kinds.Pattern)

-- what follows `may`
abbrev pub may_entry : Whom → List ℕ → Result Entry ExpectationKind
may_entry whom rest =
    claim_of whom (holds_of (first_word rest)) (access_named (first_word (behind_may rest)))
    (after_word (behind_may rest))

-- a list, if its file is named
abbrev pub file_entry : (List ℕ → Entry) → List ℕ → Result Entry ExpectationKind
file_entry entry file = if length file == 0 then Err kinds.File else Ok (entry file)

-- what follows `at`
abbrev pub bound_entry : List ℕ → Result Entry ExpectationKind
bound_entry rest =
    if bytes_eq (first_word rest) (codes "most") then file_entry (λ f. AtMost f) (after_word rest)
    else (if bytes_eq (first_word rest) (codes "least") then
    file_entry (λ f. AtLeast f) (after_word rest) else Err kinds.Keyword)

-- a line with this first word and this rest; whom it is about stands before `may`, whatever the word
abbrev pub keyword_entry : List ℕ → List ℕ → Result Entry ExpectationKind
keyword_entry word rest =
    if bytes_eq (first_word rest) (codes "may") then may_entry (whom_of word) (after_word rest)
    else (if bytes_eq word (codes "acl") then file_entry (λ f. InList f) rest
    else (if bytes_eq word (codes "at") then bound_entry rest
    else Err kinds.Keyword))

abbrev pub text_entry : List ℕ → Result Entry ExpectationKind
text_entry text =
    if length text == 0 || slice_index text 0 == 35 then Ok Skipped
    else keyword_entry (first_word text) (after_word text)

-- what the line says, or what is wrong with it
abbrev pub entry_of : List ℕ → Result Entry ExpectationKind
entry_of line = text_entry (trimmed line)
