-- The fields of a command as a table: of each its name, its kind, and what an absent one gives.
use Prim.Native.String.{String}
use Rattle.std.specs.Prelude.{ℕ, ◌≡◌, ◌&&◌, List, [], ◌∷◌, Bool, true, false, nat_le, map, codes, ⊤}
use Rattle.std.specs.Prelude.{if◌then◌else◌, Option, Some, None, option_map, option_and_then}
use Rattle.std.specs.Prelude.{Result, Ok, Err}
use Rattle.std.specs.List.{list_any}
use Rattle.std.specs.Str.{bytes_eq}
use Rattle.serde_json.specs.Data.{Data, Members, no_members, member}
use Rattle.serde_json.specs.Find.{get, as_object, as_str, as_bool, as_number, as_u64}
use Rattle.mq_world.specs.World.{Request}
use Rattle.mq_jsonl.specs.declared.fault.LineFault.{LineFault}
use Rattle.mq_jsonl.specs.declared.fault.LineFault.TheVariants.{LineTooLong, BadJson, BadCommand}
use Rattle.mq_jsonl.specs.declared.fault.LineFault.TheVariants.{BadField, Memory}

infixl 10 ◌>>=◌
abbrev pub ◌>>=◌ : {A B : Type 0} → Result A LineFault → (A → Result B LineFault)
    → Result B LineFault
(Ok x) >>= f = f x
(Err e) >>= f = Err e

-- the value, or a fault where there is none
abbrev pub or_fault : {A : Type 0} → LineFault → Option A → Result A LineFault
or_fault e (Some x) = Ok x
or_fault e None = Err e

-- ## A row of the table

pub data Kind : Type 0 where
  text : Kind
  flag : Kind
  unsigned : Kind
  whole : (low high : ℕ) → Kind

-- what a value of the kind is
abbrev pub ValueOf : Kind → Type 0
ValueOf text = List ℕ
ValueOf flag = Bool
ValueOf unsigned = ℕ
ValueOf (whole low high) = ℕ

-- whether a field may be absent, and what it gives then
pub data Presence (A : Type 0) : Type 0 where
  -- it must be there
  required : Presence A
  -- it gives none
  optional : Presence A
  -- it gives this value
  default : A → Presence A
  -- it gives nothing, there or absent
  ignored : Presence A

pub record Field : Type 0 where
  pub name : List ℕ
  pub kind : Kind
  pub presence : Presence (ValueOf kind)

abbrev pub row : String → (kind : Kind) → Presence (ValueOf kind) → Field
row name kind presence = record { name = codes name; kind = kind; presence = presence }

-- ## What a field gives

-- a whole number of 64 bits, written without fraction or exponent
abbrev pub as_unsigned : Data → Option ℕ
as_unsigned d = option_and_then as_u64 (as_number d)

abbrev pub within : ℕ → ℕ → ℕ → Option ℕ
within low high n = if nat_le low n && nat_le n high then Some n else None

-- the value that some data of the kind is
abbrev pub of_kind : (kind : Kind) → Data → Option (ValueOf kind)
of_kind text d = as_str d
of_kind flag d = as_bool d
of_kind unsigned d = as_unsigned d
of_kind (whole low high) d = option_and_then (within low high) (as_unsigned d)

abbrev pub Given : {A : Type 0} → Presence A → Type 0
Given {A} required = A
Given {A} optional = Option A
Given {A} (default a) = A
Given {A} ignored = ⊤

-- by what stands under its name, if anything does; None is a fault
abbrev pub given_as : {A : Type 0} (presence : Presence A) → (Data → Option A) → Option Data
    → Option (Given presence)
given_as required kind None = None
given_as required kind (Some d) = kind d
given_as optional kind None = Some None
given_as optional kind (Some d) = option_map Some (kind d)
given_as (default a) kind None = Some a
given_as (default a) kind (Some d) = kind d
given_as ignored kind o = Some tt

abbrev pub given : (field : Field) → Data → Option (Given field.presence)
given field d = given_as field.presence (of_kind field.kind) (get field.name d)

-- ## A command of fields

-- what makes a command of all that its fields give
abbrev pub Maker : List Field → Type 0
Maker [] = Request
Maker (field ∷ fields) = Given field.presence → Maker fields

-- the command, unless a field has a fault
abbrev pub made : (fields : List Field) → Maker fields → Data → Option Request
made [] request d = Some request
made (field ∷ fields) make d = option_and_then (λ value. made fields (make value) d) (given field d)

abbrev pub names_in : List Field → List (List ℕ)
names_in fields = map (λ field. field.name) fields

abbrev pub is_among : List (List ℕ) → List ℕ → Bool
is_among names k = list_any (λ n. bytes_eq n k) names

abbrev pub all_among : List (List ℕ) → Members → Bool
all_among names no_members = true
all_among names (member k d ms) = is_among names k && all_among names ms

abbrev pub names_among : List (List ℕ) → Option Members → Bool
names_among names None = false
names_among names (Some ms) = all_among names ms

-- an object that has no other names
abbrev pub has_only : List (List ℕ) → Data → Bool
has_only names d = names_among names (as_object d)

-- the word that names the command stands beside its fields
abbrev pub word : Field
word = row "do" text ignored

-- an object of these fields, each as its row has it, and of no other names makes the command; every
-- other has the same fault, so in which order fields are read is no part of this
unfoldable pub from_fields : (fields : List Field) → Maker fields → Data → Result Request LineFault
from_fields fields make d =
    if has_only (names_in (word ∷ fields)) d then or_fault BadField (made fields make d) else
    Err BadField

-- ## What a function returned, seen by f, is what reading gives, unless memory ran out

abbrev pub Fails : {Y : Type 0} → LineFault → Result Y LineFault → Type 0
Fails LineTooLong reading = reading ≡ Err LineTooLong
Fails BadJson reading = reading ≡ Err BadJson
Fails BadCommand reading = reading ≡ Err BadCommand
Fails BadField reading = reading ≡ Err BadField
Fails Memory reading = Unit {0}

abbrev pub Gives : {X Y : Type 0} → (X → Y) → Result X LineFault → Result Y LineFault → Type 0
Gives f (Ok x) reading = reading ≡ Ok (f x)
Gives f (Err e) reading = Fails e reading
