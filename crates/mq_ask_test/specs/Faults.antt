-- Why nothing is said of the lines of a file of expectations.
use Rattle.std.specs.Prelude.{◌≡◌, ◌⊎◌, ◌<◌, ◌+◌, ◌++◌, ◌∷◌, ℕ, List, [], length, ⊤, Contains}
use Rattle.std.specs.Prelude.{Option, Some, None, Result, Ok, IsSomeAnd}
use Rattle.mq_acl.specs.Views.{line_views}
use Rattle.mq_acl.specs.declared.row.Row.{Row}
use Rattle.mq_acl.specs.declared.rules.Rules.{Rules}
use Rattle.mq_witness.specs.Limits.{long_line, marked_line}
use Rattle.mq_differences.specs.Steps.{enough_steps}
use Rattle.mq_expect.specs.Expectations.{AtLeast, AtMost, Entry}
use Rattle.mq_expect.specs.declared.fault.ExpectationKind.{ExpectationKind}
use Rattle.mq_who.specs.Made.{most_made}
use Rattle.mq_ask_test.specs.Lists.{rows_in}
use Rattle.mq_ask_test.specs.Questions.{Question}
use Rattle.mq_ask_test.specs.declared.fault.TestFault.{TestFault}
use Rattle.mq_ask_test.specs.declared.fault.TestFault.TheVariants as fault
use Rattle.mq_ask_test.specs.declared.list.ReadList.{ReadList}

-- it is so of the list in this file: the first row with too long a level or user name, or with a mark
-- in a level, has this line; or fewer steps are given than are always enough for so many rows, and this
-- is the line of one of them, or 0 for the filter
abbrev pub IsListFault : Rules → (file : List ℕ) → List Row → (count steps line : ℕ) → TestFault
    → Type 0
IsListFault rules file rows count steps line fault.Memory = ⊤
IsListFault rules file rows count steps line (fault.Missing name) = ⊥
IsListFault rules file rows count steps line (fault.Long name row) =
    (name.now ≡ file) × (long_line rows ≡ Some row)
IsListFault rules file rows count steps line (fault.Mark name row) =
    (name.now ≡ file) × (marked_line rules rows ≡ Some row)
IsListFault rules file rows count steps line (fault.GaveUp expectation name row others) =
    (name.now ≡ file) × (expectation ≡ line) × Contains (line_views rows ++ (0 ∷ [])) row
    × (steps < enough_steps count)

-- it is so of one of two lists that are compared
abbrev pub IsBoundFault : Rules → (bound : List ℕ) → List Row → (file : List ℕ) → List Row
    → (steps line : ℕ) → TestFault → Type 0
IsBoundFault rules bound bounding file rows steps line f =
    IsListFault rules bound bounding (length bounding + length rows) steps line f
    ⊎ IsListFault rules file rows (length bounding + length rows) steps line f

-- no list of this file was read
abbrev pub IsMissing : List ReadList → List ℕ → TestFault → Type 0
IsMissing lists file (fault.Missing name) = (name.now ≡ file) × (rows_in lists file ≡ None)
IsMissing lists file f = ⊥

-- it is so of the list in the file behind `at most` or `at least`, or of the one that is spoken of
abbrev pub IsBehind : Rules → List ReadList → (bound file : List ℕ) → List Row → (steps line : ℕ)
    → TestFault → Type 0
IsBehind rules lists bound file rows steps line f = IsMissing lists bound f
    ⊎ IsSomeAnd (rows_in lists bound)
    (λ bounding. IsBoundFault rules bound bounding file rows steps line f)

abbrev pub IsEntryFault : Rules → List ReadList → (file : List ℕ) → List Row → (steps line : ℕ)
    → Entry → TestFault → Type 0
IsEntryFault rules lists file rows steps line (AtMost bound) f =
    IsBehind rules lists bound file rows steps line f
IsEntryFault rules lists file rows steps line (AtLeast bound) f =
    IsBehind rules lists bound file rows steps line f
IsEntryFault rules lists file rows steps line entry f =
    IsListFault rules file rows (length rows + most_made rules (length rows)) steps line f

-- it is so of what a line without a fault asks
abbrev pub IsAskedFault : Rules → List ReadList → Option (List ℕ) → (steps line : ℕ)
    → Result Entry ExpectationKind → TestFault → Type 0
IsAskedFault rules lists (Some file) steps line (Ok entry) f = IsMissing lists file f
    ⊎ IsSomeAnd (rows_in lists file)
    (λ rows. IsEntryFault rules lists file rows steps line entry f)
IsAskedFault rules lists list steps line says f = ⊥

abbrev pub IsFaultOf : Rules → List ReadList → (steps : ℕ) → Question → TestFault → Type 0
IsFaultOf rules lists steps q f = IsAskedFault rules lists q.list steps q.line q.says f

-- memory ran out, or it is so of one of the questions
abbrev pub IsTestFault : Rules → List ReadList → (steps : ℕ) → List Question → TestFault → Type 0
IsTestFault rules lists steps all f = (f ≡ fault.Memory)
    ⊎ ((q : Question) × Contains all q × IsFaultOf rules lists steps q f)
