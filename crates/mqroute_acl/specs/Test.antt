-- Whether lists are as a file of expectations says.
use Rattle.std.specs.Prelude.{◌≡◌, ◌≢◌, [], ℕ, Bool, true, List, Option, All, string_bytes}
use Rattle.std.specs.List.{list_any}
use Rattle.std.specs.Str.{bytes_eq}
use Rattle.mq_acl.specs.declared.rules.Rules.{Rules}
use Rattle.mq_expect.specs.Files.{expectations_of}
use Rattle.mq_ask_test.specs.Questions.{questions}
use Rattle.mq_ask_test.specs.Tested.{ShowsTested}
use Rattle.mq_ask_test.specs.declared.list.ReadList.{ReadList}
use Rattle.mq_ask.specs.Lists.{AreRows}
use Rattle.mq_ask.specs.declared.outcome.Outcome.{Outcome}
use Rattle.mqroute_acl.specs.Files.{IsTextOf}
use Rattle.mqroute_acl.specs.declared.test.ListFile.{ListFile}

-- the file stands among these
abbrev pub is_among : (file : List ℕ) → (files : List (List ℕ)) → Bool
is_among file files = list_any (bytes_eq file) files

-- a file that the command line gives may have this text; what one has that only the expectations name, no
-- contract can say
abbrev pub IsListText : (input : Option (List ℕ)) → (given : List (List ℕ)) → (file text : List ℕ)
    → Type 0
IsListText input given file text = is_among file given ≡ true → IsTextOf input file text

-- the list was read by these rules from a text that its file may have
pub record IsRead (rules : Rules) (input : Option (List ℕ)) (given : List (List ℕ))
    (r : ReadList) : Type 0 where
  pub text : IsListText input given r.list.file.now r.list.text.now
  pub rows : AreRows rules r.list.text.now r.rows.items

-- so it is of the expectations with this text, which has some, of the lists that are given or else of
-- those that it names
pub record IsTested (rules : Rules) (input : Option (List ℕ)) (text : List ℕ)
    (given : List (List ℕ)) (outcome : Outcome) : Type 0 where
  pub lists : List ReadList
  pub read : All (IsRead rules input given) lists
  pub some : questions given (expectations_of text) ≢ []
  pub shown : ShowsTested rules lists (questions given (expectations_of text)) outcome

-- ---- before the lists are read
-- the text that was read of a file is one that it may have
abbrev pub IsGiven : (input : Option (List ℕ)) → ListFile → Type 0
IsGiven input l = IsTextOf input l.file.now (string_bytes l.text)

-- and so it is where the command line gives the file
abbrev pub IsNamed : (input : Option (List ℕ)) → (given : List (List ℕ)) → ListFile → Type 0
IsNamed input given l = IsListText input given l.file.now (string_bytes l.text)

abbrev pub AreNamed : (input : Option (List ℕ)) → (given : List (List ℕ)) → List ListFile → Type 0
AreNamed input given lists = All (IsNamed input given) lists

abbrev pub AreRead : Rules → (input : Option (List ℕ)) → (given : List (List ℕ)) → List ReadList
    → Type 0
AreRead rules input given lists = All (IsRead rules input given) lists
