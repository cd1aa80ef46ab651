-- What is odd or needless in the lists of files.
use Rattle.std.specs.Prelude.{ℕ, Bool, true, false, List, Option, Some, None, All, Any}
use denote.Ref.{Bor}
use Rattle.mq_acl.specs.declared.rules.Rules.{Rules}
use Rattle.mq_ask.specs.Lists.{IsTaken}
use Rattle.mq_ask_lint.specs.Lint.{IsLinted, IsRefused, SaysWhetherTaken}
use Rattle.mq_ask_lint.specs.declared.lint.Linted.{Linted}
use Rattle.mq_ask.specs.declared.outcome.Outcome.{Outcome}
use Rattle.mq_ask.specs.declared.outcome.Outcome.TheVariants.{Clear, Remark as Shown}
use Rattle.mqroute_acl.specs.Files.{IsTextOf}

-- whether something is odd, faulty or needless in the text of a file is shown
abbrev pub IsLintedText : Rules → (input : Option (List ℕ)) → (file : List ℕ) → Outcome → Type 0
IsLintedText rules input file outcome =
    (text : List ℕ) × IsTextOf input file text × IsLinted rules text outcome

-- and whether mosquitto takes each of its lines
abbrev pub IsLintedFile : Rules → (input : Option (List ℕ)) → (file : List ℕ) → Linted → Type 0
IsLintedFile rules input file linted = (text : List ℕ) × IsTextOf input file text
    × IsLinted rules text linted.outcome × SaysWhetherTaken text linted.is_taken

-- nothing is shown of any of the files, or something of some of them
abbrev pub AreLinted : Rules → (input : Option (List ℕ)) → (files : List (List ℕ)) → Outcome
    → Type 0
AreLinted rules input files Clear = All (λ file. IsLintedText rules input file Clear) files
AreLinted rules input files Shown = Any (λ file. IsLintedText rules input file Shown) files

-- mosquitto takes the text of each file
abbrev pub AreTaken : (input : Option (List ℕ)) → (files : List (List ℕ)) → Type 0
AreTaken input files =
    All (λ file. (text : List ℕ) × IsTextOf input file text × IsTaken text) files

-- or not that of one
abbrev pub SomeIsRefused : (input : Option (List ℕ)) → (files : List (List ℕ)) → Type 0
SomeIsRefused input files =
    Any (λ file. (text : List ℕ) × IsTextOf input file text × IsRefused text) files

-- that of a file that is shown, if one is
abbrev pub SaysWhetherAllTaken : (input : Option (List ℕ)) → (files : List (List ℕ))
    → Option (Bor (List ℕ)) → Type 0
SaysWhetherAllTaken input files None = AreTaken input files
SaysWhetherAllTaken input files (Some file) = SomeIsRefused input files

-- the one before, or else this if mosquitto doesn't take it
abbrev pub first_refused : Option (Bor (List ℕ)) → Bor (List ℕ) → (is_taken : Bool)
    → Option (Bor (List ℕ))
first_refused (Some first) file is_taken = Some first
first_refused None file true = None
first_refused None file false = Some file
