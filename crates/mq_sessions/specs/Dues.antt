-- What an index of ends is seen as.
use Rattle.std.specs.Prelude.{◌≡◌, ℕ, ◌+◌, ◌==◌, ◌&&◌, ◌||◌, Bool, List, [], ◌∷◌, length, Option}
use Rattle.std.specs.Prelude.{Some, None}
use Rattle.std.specs.List.{list_any}
use Rattle.std.specs.BinaryHeap.{IsUpperBound}
use Rattle.std.specs.Rc.{rc_str_bytes}
use Rattle.std.specs.Str.{bytes_eq}
use Rattle.std.specs.declared.alloc.Global.{Global}
use Rattle.std.specs.declared.cmp.Reverse.{Reverse}
use Rattle.std.specs.declared.cmp.Ordering.{Ordering}
use Rattle.std.specs.declared.rc.RcStr.{RcStr}
use Rattle.std.specs.Cmp.Lexicographic.{slice_cmp}
use Rattle.std.specs.Ordering.{nat_cmp, ordering_then}

-- an end, and whose session ends then
abbrev pub Due : Type 0
Due = ℕ × List ℕ

abbrev pub due_of : Reverse ℕ × RcStr Global → Due
due_of entry = (entry.0.0, rc_str_bytes entry.1)

-- an earlier end is greater, so that a heap has it first
abbrev pub due_cmp : Due → Due → Ordering
due_cmp x y = ordering_then (nat_cmp y.0 x.0) (slice_cmp nat_cmp x.1 y.1)

abbrev pub entry_cmp : Reverse ℕ × RcStr Global → Reverse ℕ × RcStr Global → Ordering
entry_cmp x y = due_cmp (due_of x) (due_of y)

-- none of these comes before the end
abbrev pub IsFirst : Due → List Due → Type 0
IsFirst due dues = IsUpperBound due_cmp due dues

-- the ends, a first one first and the others in any order, and how many there is room for
pub record Dues : Type 0 where
  pub entries : List Due
  pub room : ℕ

abbrev pub first_of : List Due → Option Due
first_of [] = None
first_of (due ∷ dues) = Some due

-- whether it is the same end of the same client
abbrev pub same_due : Due → Due → Bool
same_due x y = x.0 == y.0 && bytes_eq x.1 y.1

abbrev pub is_in : Due → List Due → Bool
is_in due dues = list_any (same_due due) dues

-- the second are the first and one more: each test that one of the second passes, that one or one of the first passes
pub record AreWith (due : Due) (dues more : List Due) : Type 0 where
  pub count : length more ≡ length dues + 1
  pub tests : (test : Due → Bool) → list_any test more ≡ (test due || list_any test dues)

-- the second are the first without the first one, if there is one
abbrev pub AreRest : List Due → List Due → Type 0
AreRest [] rest = rest ≡ []
AreRest (due ∷ dues) rest = AreWith due rest (due ∷ dues)
