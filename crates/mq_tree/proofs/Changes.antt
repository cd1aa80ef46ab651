-- What a change to a child's entries makes of a node's.
use Rattle.std.proofs.Common.{◌≡◌, ◌≢◌, ℕ, Bool, true, false, eqb, List, [], ◌∷◌, length, Some}
use Rattle.std.proofs.Common.{Result, Ok, Err, OnOk, OnErr, Less, refl, sym, ap, subst, arith, inl}
use Rattle.std.proofs.Common.{inr}
use Rattle.std.specs.BTreeMap.{insert_entry}
use Rattle.std.specs.Ordering.{nat_cmp}
use Rattle.std.specs.Map.{lookup, remove_entry, set_value, keys_of}
use Rattle.std.proofs.lemmas.Bool.Decides.{nat_tests}
use Rattle.std.specs.Cmp.Lexicographic.{slice_cmp}
use Rattle.mq_topic.specs.Levels.{level_order}
use Rattle.mq_tree.specs.Entries.{Entries, AreInOrder}
use Rattle.mq_tree.specs.Nodes.{Children, below, NoneDead}
use Rattle.std.specs.Cmp.{IsTotalOrder}
use Rattle.std.specs.List.{AllByRecursion}
use Rattle.std.specs.List.Sorted.{IsStrictlySortedBy}
use Rattle.std.proofs.lemmas.Cmp.{nat_list_cmp_total, lists_total}
use Rattle.mq_tree.specs.LendingNode.{PutsAtMost}

-- ---- no child is dead
pub live_found : {V : Type 0} (test : List ℕ → Bool) (children : Children V) (es : Entries V)
    → NoneDead children → lookup test children ≡ Some es → es ≢ []
live_found test [] es h found = grind arith
live_found test (child ∷ children) es h found = grind (arith, live_found test children es h.1)

-- no child is left without entries where one gets new entries
pub live_set : {V : Type 0} (test : List ℕ → Bool) (children : Children V) (new : Entries V)
    → NoneDead children → new ≢ [] → NoneDead (set_value test children new)
live_set test [] new h n = tt
live_set test (child ∷ children) new h n = grind (arith, live_set test children new h.1 n)

-- no child is left without entries once the one that changed is taken out
pub live_cut : {V : Type 0} (test : List ℕ → Bool) (children : Children V) (new : Entries V)
    → NoneDead children → NoneDead (remove_entry test (set_value test children new))
live_cut test [] new h = tt
live_cut test (child ∷ children) new h = grind (arith, live_cut test children new h.1)

-- no child is left without entries where one comes in with some
pub live_insert : {V : Type 0} (text : List ℕ) (children : Children V) (new : Entries V)
    → NoneDead children → new ≢ [] → NoneDead (insert_entry (slice_cmp nat_cmp) children text new)
live_insert text [] new h n = (n, tt)
live_insert text (child ∷ children) new h n = grind (arith, live_insert text children new h.1 n)

some_inserted : {V : Type 0} (es : Entries V) (k : List (List ℕ)) (v : V)
    → insert_entry level_order es k v ≢ []
some_inserted [] k v = λ e. cc
some_inserted (x ∷ es) k v = grind arith

-- a list whose length tests as 0 is empty
pub nil_from_empty : {A : Type 0} (es : List A) (b : Bool) → b ≡ eqb (length es) 0 → b ≡ true
    → es ≡ []
nil_from_empty [] b e t = refl
nil_from_empty (x ∷ es) b e t = grind (arith, nat_tests)

-- a list whose length does not test as 0 is not empty
pub some_from_not_empty : {A : Type 0} (es : List A) (b : Bool) → b ≡ eqb (length es) 0 → b ≡ false
    → es ≢ []
some_from_not_empty es b e t =
    λ n. absurd (let z : length es ≡ 0 = ap length n in grind (arith, nat_tests))

-- ---- the same children
pub set_same : {V : Type 0} (test : List ℕ → Bool) (children : Children V) (es : Entries V)
    → lookup test children ≡ Some es → set_value test children es ≡ children
set_same test [] es found = refl
set_same test (child ∷ children) es found = grind (arith, set_same test children es)

-- a child without entries may as well be taken out
pub below_cut : {V : Type 0} (test : List ℕ → Bool) (children : Children V)
    → below (remove_entry test (set_value test children [])) ≡ below (set_value test children [])
below_cut test [] = refl
below_cut test (child ∷ children) = grind (arith, below_cut test children)

-- what holds in any case holds where a result is an error
pub on_err : {T E P : Type 0} (r : Result T E) → P → OnErr r P
on_err (Ok x) p = tt
on_err (Err e) p = p

-- a child is no less alive after a put
pub live_put : {V T E : Type 0} (r : Result T E) (es new : Entries V) (k : List (List ℕ)) (v : V)
    → es ≢ [] → OnOk r (new ≡ insert_entry level_order es k v) → OnErr r (new ≡ es) → new ≢ []
live_put (Ok x) es new k v n ok err = subst (λ xs. xs ≢ []) (sym ok) (some_inserted es k v)
live_put (Err e) es new k v n ok err = subst (λ xs. xs ≢ []) (sym err) n

-- ---- The keys of a tree stand in level order after each edit
abbrev Before : {V : Type 0} → List (List ℕ) → Entries V → Type 0
Before k es = AllByRecursion (λ j. level_order k j ≡ Less) (keys_of es)

level_total : IsTotalOrder level_order
level_total = lists_total nat_list_cmp_total

before_inserted : {V : Type 0} (j k : List (List ℕ)) (v : V) (es : Entries V)
    → level_order j k ≡ Less → Before j es → Before j (insert_entry level_order es k v)
before_inserted j k v [] h a = (h, tt)
before_inserted j k v (e ∷ es) h a = grind (arith, before_inserted j k v es h a.1)

before_all : {V : Type 0} (j k : List (List ℕ)) (es : Entries V) → level_order j k ≡ Less
    → Before k es → Before j es
before_all j k [] h a = tt
before_all j k (e ∷ es) h a = (level_total.trans j k e.0 h a.0, before_all j k es h a.1)

-- keys stay in order where an entry is put in
pub insert_in_order : {V : Type 0} (k : List (List ℕ)) (v : V) (es : Entries V) → AreInOrder es
    → AreInOrder (insert_entry level_order es k v)
unfolding IsStrictlySortedBy
insert_in_order k v [] s = (tt, tt)
insert_in_order k v (e ∷ es) s =
    grind (
      arith,
      before_all k e.0 es,
      before_inserted e.0 k v es,
      level_total.antisymm e.0 k,
      insert_in_order k v es s.1,
    )

before_removed : {V : Type 0} (j : List (List ℕ)) (test : List (List ℕ) → Bool) (es : Entries V)
    → Before j es → Before j (remove_entry test es)
before_removed j test [] a = tt
before_removed j test (e ∷ es) a = grind (arith, before_removed j test es a.1)

-- keys stay in order where entries are taken out
pub remove_in_order : {V : Type 0} (test : List (List ℕ) → Bool) (es : Entries V) → AreInOrder es
    → AreInOrder (remove_entry test es)
unfolding IsStrictlySortedBy
remove_in_order test [] s = tt
remove_in_order test (e ∷ es) s =
    grind (arith, before_removed e.0 test es s.0, remove_in_order test es s.1)

-- what holds of both outcomes of a call
pub from_result : {X T E : Type 0} (P : X → Type 0) (r : Result T E) (x a b : X) → OnOk r (x ≡ a)
    → OnErr r (x ≡ b) → P a → P b → P x
from_result P (Ok v) x a b ok err p q = subst P (sym ok) p
from_result P (Err e) x a b ok err p q = subst P (sym err) q

-- keys stay in order where at most one entry is put in
pub put_at_most : {V : Type 0} (k : List (List ℕ)) (v : V) (old new : Entries V)
    → PutsAtMost k v old new → AreInOrder old → AreInOrder new
put_at_most k v old new (inl e) s = rw e (insert_in_order k v old s)
put_at_most k v old new (inr e) s = rw e s
