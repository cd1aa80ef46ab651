-- An object that is read member by member, in the order of its names.
use Rattle.std.specs.Borrow.{Bor, MutBor}
use Rattle.std.specs.Prelude.{◌≡◌, ℕ, List, [], ◌∷◌, cond, Option, None, Some, Result, Ok, Err, ⊤}
use Rattle.std.specs.Prelude.{Bool, true, false, ◌||◌, is_none, unwrap_or}
use Rattle.std.specs.Cmp.Lexicographic.{slice_cmp}
use Rattle.std.specs.List.{AllByRecursion}
use Rattle.std.specs.Ordering.{nat_cmp}
use Rattle.std.specs.declared.cmp.Ordering.TheVariants.{Less}
use Rattle.std.specs.Str.{bytes_eq}
use Rattle.serde_json.specs.Data.{Data, object, Members, no_members, member}
use Rattle.serde_json.specs.Find.{get}
use Rattle.serde_json.specs.View.{members_view}
use Rattle.mq_jsonl.specs.Fields.{◌>>=◌, Kind, ValueOf, of_kind, Presence, Given, given_as}
use Rattle.mq_jsonl.specs.Objects.{names_of}
use Rattle.mq_jsonl.specs.declared.fault.LineFault.{LineFault}
use Rattle.mq_jsonl.specs.declared.fault.LineFault.TheVariants.{BadField}
use Rattle.mq_jsonl.specs.declared.fields.Fields.{Fields}

-- each of the names is above n
abbrev pub Above : List ℕ → List (List ℕ) → Type 0
Above n names = AllByRecursion (λ m. slice_cmp nat_cmp n m ≡ Less) names

-- each name is below those after it
abbrev pub Ascends : List (List ℕ) → Type 0
Ascends [] = ⊤
Ascends (n ∷ names) = Above n names × Ascends names

-- the entry that was lent last, and those that are still to be; where none was, none is left
abbrev pub with_next : {K X : Type 0} → Option (Bor K × MutBor X) → List (K × X) → List (K × X)
with_next None es = []
with_next (Some p) es = (p.0.now, p.1.now) ∷ es

-- the members that fields have left
abbrev pub members_left : Fields → Members
members_left f = members_view (with_next f.next f.rest.0)

-- the object of the next member alone
abbrev pub ahead : Members → Data
ahead no_members = object no_members
ahead (member l d ms) = object (member l d no_members)

-- what is left past the name k, which the next member has or else none
abbrev pub past : List ℕ → Members → Members
past k no_members = no_members
past k (member l d ms) = cond (bytes_eq k l) ms (member l d ms)

-- no member is left
abbrev pub end : Members → Result ⊤ LineFault
end no_members = Ok tt
end (member l d ms) = Err BadField

-- whether a field had a fault, or a member is left
abbrev pub outcome : Bool → Members → Result ⊤ LineFault
outcome true ms = Err BadField
outcome false ms = end ms

-- y, unless fields had a fault or have a member left
abbrev pub finished : {Y : Type 0} → Fields → Y → Result Y LineFault
finished f y = outcome f.is_faulty (members_left f) >>= λ _. Ok y

-- the fields stand before all members of an object, whose names ascend
pub record Begins (ms : Members) (fields : Fields) : Type 0 where
  pub all : members_left fields ≡ ms
  pub ordered : Ascends (names_of ms)
  pub sound : fields.is_faulty ≡ false

-- a field is read from the next member: x is what it gives, or a in its place where it has a fault
pub record Reads (name : List ℕ) (kind : Kind) (presence : Presence (ValueOf kind))
    (a : Given presence) (old new : Fields) (x : Given presence) : Type 0 where
  pub value : x ≡ unwrap_or
      (given_as presence (of_kind kind) (get name (ahead (members_left old)))) a
  pub left : members_left new ≡ past name (members_left old)
  pub faulty : new.is_faulty ≡ (old.is_faulty
      || is_none (given_as presence (of_kind kind) (get name (ahead (members_left old)))))
