-- What a walk over the values of an object leaves, if it writes data over them in turn.
use Rattle.std.proofs.Common.{◌≡◌, ◌≤◌, List, [], ◌∷◌, length, Bool, true, false, suc, cond, map}
use Rattle.std.proofs.Common.{String, Global, string_bytes, refl, sym, ap, arith}
use Rattle.std.specs.List.{AllByRecursion}
use Rattle.std.specs.Map.Calls.{RetainsPairs}
use Rattle.std.proofs.lemmas.Bool.{or_from}
use Rattle.serde_json.specs.Data.{Data}
use Rattle.serde_json.specs.View.{view, members_view}
use Rattle.serde_json.specs.Written.{has_float, members_have_float}
use Rattle.serde_json.specs.declared.value.Value.{Value}
use Rattle.mq_jsonl.specs.Objects.{names_of, values_of, data_of, WritesNext}
use Rattle.mq_jsonl.specs.declared.object.Datum.{Datum}
use Rattle.mq_jsonl.specs.declared.object.Datum.TheVariants.{Text, Number, Flag, Numbers}
use Rattle.mq_jsonl.proofs.FloatLemmas.{numbers_none}

abbrev Entry : Type 0
Entry = String Global × Value

-- the calls that a walk makes
abbrev pub Calls : Type 0 → Type 1
Calls F = F → String Global → Value → Bool → Value → F → Type 0

-- each of them writes the next of the data that are left to its state
abbrev pub WritesInTurn : {F : Type 0} → Calls F → (F → List Data) → Type 0
WritesInTurn {F} T todo = (f : F) (k : String Global) (v : Value) (b : Bool) (w : Value) (f' : F)
    → T f k v b w f'
    → WritesNext (todo f) b (view w) (todo f')

no_more : {F : Type 0} (T : Calls F) (todo : F → List Data) → WritesInTurn T todo
    → (f : F) (es kept : List Entry)
    → RetainsPairs T f es kept → length kept ≤ length (todo f)
no_more T todo writes f [] kept r = rw r (omega arith)
no_more T todo writes f (e ∷ es) kept r =
    by_answer r.0 (todo f) (todo r.2) (view r.1) (e.0, r.1) r.3 (writes f e.0 e.1 r.0 r.1 r.2 r.4)
    r.6 (no_more T todo writes r.2 es r.3 r.5)
  where
    by_answer : (b : Bool) (ds later : List Data) (d : Data) (p : Entry) (rest : List Entry)
        → WritesNext ds b d later
        → kept ≡ cond b (p ∷ rest) rest → length rest ≤ length later → length kept ≤ length ds
    by_answer true ds later d p rest is left bound = rw (left, is) (omega (arith, bound))
    by_answer false ds later d p rest none left bound =
        rw left (let empty = rw none at bound in omega (arith, empty))

-- a walk that kept all wrote all
abbrev pub IsRefilled : List Entry → List Entry → List Data → Type 0
IsRefilled es kept ds = (names_of (members_view kept) ≡ names_of (members_view es))
    × (values_of (members_view kept) ≡ ds)

nothing : (ds : List Data) → length ds ≡ 0 → [] ≡ ds
nothing [] e = refl
nothing (d ∷ ds) e = absurd (omega (arith, e))

-- a walk that keeps all entries, as many as its data, keeps their names and writes the data
pub refilled : {F : Type 0} (T : Calls F) (todo : F → List Data) → WritesInTurn T todo
    → (f : F) (es kept : List Entry)
    → RetainsPairs T f es kept → length kept ≡ length es → length es ≡ length (todo f)
    → IsRefilled es kept (todo f)
refilled T todo writes f [] kept r whole same = rw r (refl, nothing (todo f) (sym same))
refilled T todo writes f (e ∷ es) kept r whole same =
    by_answer r.0 (writes f e.0 e.1 r.0 r.1 r.2 r.4) r.6 (refilled T todo writes r.2 es r.3 r.5)
  where
    by_answer : (b : Bool) → WritesNext (todo f) b (view r.1) (todo r.2)
        → kept ≡ cond b ((e.0, r.1) ∷ r.3) r.3
        → (length r.3 ≡ length es → length es ≡ length (todo r.2) → IsRefilled es r.3 (todo r.2))
        → IsRefilled (e ∷ es) kept (todo f)
    by_answer true is left more =
        let counted : length ((e.0, r.1) ∷ r.3) ≡ length (e ∷ es) = rw left at whole in
        let matched : length (e ∷ es) ≡ length (view r.1 ∷ todo r.2) = rw is at same in
        let below = more (omega (arith, counted)) (omega (arith, matched)) in
        rw (left, is) (ap (λ ns. string_bytes e.0 ∷ ns) below.0, ap (λ vs. view r.1 ∷ vs) below.1)
    by_answer false none left more =
        let counted : length r.3 ≡ length (e ∷ es) = rw left at whole in
        let bound : length r.3 ≤ length (todo r.2) = no_more T todo writes r.2 es r.3 r.5 in
        let empty = rw none at bound in
        absurd (omega (arith, counted, empty))

-- what it kept is as free of floats as the data
abbrev pub NoFloats : List Data → Type 0
NoFloats ds = AllByRecursion (λ d. has_float d ≡ false) ds

-- where the data of a walk have no floats, nor has what it keeps
pub refilled_none : {F : Type 0} (T : Calls F) (todo : F → List Data) → WritesInTurn T todo
    → (f : F) (es kept : List Entry)
    → RetainsPairs T f es kept → NoFloats (todo f) → members_have_float (members_view kept) ≡ false
refilled_none T todo writes f [] kept r none = rw r refl
refilled_none T todo writes f (e ∷ es) kept r none =
    by_answer r.0 (todo f) (todo r.2) r.1 r.3 (writes f e.0 e.1 r.0 r.1 r.2 r.4) r.6 none
    (refilled_none T todo writes r.2 es r.3 r.5)
  where
    by_answer : (b : Bool) (ds later : List Data) (w : Value) (rest : List Entry)
        → WritesNext ds b (view w) later
        → kept ≡ cond b ((e.0, w) ∷ rest) rest → NoFloats ds
        → (NoFloats later → members_have_float (members_view rest) ≡ false)
        → members_have_float (members_view kept) ≡ false
    by_answer true ds later w rest is left none more =
        let parts : NoFloats (view w ∷ later) = rw is at none in
        rw left (or_from (has_float (view w)) (members_have_float (members_view rest)) parts.0
        (more parts.1))
    by_answer false ds later w rest empty left none more = rw left (more (rw empty tt))

-- the data that are printed have no floats
pub data_none : (fs : List Datum) → NoFloats (map data_of fs)
data_none [] = tt
data_none (Text text ∷ fs) = (refl, data_none fs)
data_none (Number n ∷ fs) = (refl, data_none fs)
data_none (Flag flag ∷ fs) = (refl, data_none fs)
data_none (Numbers numbers ∷ fs) = (numbers_none numbers.now, data_none fs)

-- an object has as many names as entries
pub length_names : (es : List Entry) → length (names_of (members_view es)) ≡ length es
length_names [] = refl
length_names (e ∷ es) = ap suc (length_names es)

-- an object without entries has no names
pub no_names : (es : List Entry) → length es ≡ 0 → names_of (members_view es) ≡ []
no_names [] none = refl
no_names (e ∷ es) none = absurd (omega (arith, none))
