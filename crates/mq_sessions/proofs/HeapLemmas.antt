-- A heap's items as ends with clients.
use Rattle.std.proofs.Common.{◌≡◌, ℕ, ◌<◌, ◌≤◌, ◌==◌, nat_le, Bool, true, false, true≢false}
use Rattle.std.proofs.Common.{◌||◌, ◌&&◌, List, [], ◌∷◌, map}
use Rattle.std.proofs.Common.{length, get_or, refl, sym, ◌∙◌, ap, subst, arith}
use Rattle.std.specs.List.{list_any}
use Rattle.std.specs.Rc.{rc_str_bytes}
use Rattle.std.specs.List.Sorted.{IsPermutation}
use Rattle.std.specs.Ordering.{is_lt, is_eq, nat_cmp, ordering_then, ordering_reverse}
use Rattle.std.specs.BinaryHeap.{IsUpperBound}
use Rattle.std.specs.declared.alloc.Global.{Global}
use Rattle.std.specs.declared.cmp.Ordering.{Ordering}
use Rattle.std.specs.declared.cmp.Ordering.TheVariants.{Less, Equal, Greater}
use Rattle.std.specs.declared.cmp.Reverse.{Reverse}
use Rattle.std.specs.declared.rc.RcStr.{RcStr}
use Rattle.std.proofs.lemmas.List.Sorted.{list_any-IsPermutation, IsPermutation-map}
use Rattle.std.proofs.lemmas.List.Sorted.{length_permutation}
use Rattle.std.proofs.lemmas.Bool.Decides.{nat_tests}
use Rattle.std.proofs.lemmas.Bool.{and_parts}
use Rattle.std.proofs.lemmas.Map.Text.{is_eq-slice_cmp}
use Rattle.std.specs.Cmp.Lexicographic.{nat_list_cmp_total, slice_cmp}
use borrow.Author.Tests.{eqb-true}
use Rattle.mq_world.specs.Lists.{same_text}
use Rattle.mq_world.proofs.BoolLemmas.{pick}
use Rattle.mq_world.proofs.OrderLemmas.{same_text-is}
use Rattle.mq_sessions.specs.Dues.{Due, due_of, due_cmp, entry_cmp, same_due, is_in, AreWith}
use Rattle.mq_sessions.specs.Dues.{AreRest, IsFirst}

abbrev Item : Type 0
Item = Reverse ℕ × RcStr Global

abbrev dues : List Item → List Due
dues = map due_of

-- a heap with one more item has one more time due
pub pushed : (x : Item) (xs ys : List Item) → IsPermutation (x ∷ xs) ys
    → AreWith (due_of x) (dues xs) (dues ys)
pushed x xs ys h =
    let moved = IsPermutation-map due_of (x ∷ xs) ys h in
    record {
      count = (let long = length_permutation (dues (x ∷ xs)) (dues ys) moved in omega arith);
      tests = λ test. sym (list_any-IsPermutation test (dues (x ∷ xs)) (dues ys) moved);
    }

-- a heap without its first item has the other times due
pub popped : (x : Item) (xs ys : List Item) → x ≡ get_or xs 0 x → IsPermutation xs (x ∷ ys)
    → AreRest (dues xs) (dues ys)
popped x [] ys top h = absurd
    (let long = length_permutation [] (x ∷ ys) h in omega arith)
popped x (y ∷ zs) ys top h =
    let moved = IsPermutation-map due_of (y ∷ zs) (x ∷ ys) h in
    subst (λ due. AreWith due (dues ys) (dues (y ∷ zs))) (ap due_of top) (record {
      count = (let long = length_permutation (dues (y ∷ zs)) (dues (x ∷ ys)) moved in
          omega arith);
      tests = λ test. list_any-IsPermutation test (dues (y ∷ zs)) (dues (x ∷ ys)) moved;
    })

not_less : (r s : Ordering) → is_lt (ordering_then r s) ≡ false → is_lt r ≡ false
not_less Less s h = h
not_less Equal s h = refl
not_less Greater s h = refl

not_before : (m n : ℕ) → is_lt (nat_cmp n m) ≡ false → m ≤ n
not_before m n h = grind (arith, nat_tests)

-- ends that test as the same are equal
pub same-due-is : (x y : Due) → same_due x y ≡ true → x ≡ y
same-due-is x y h =
    let both = and_parts (x.0 == y.0) (same_text x.1 y.1) h in
    ap (λ n. (n, x.1)) (eqb-true x.0 y.0 both.0)
    ∙ ap (λ t. (y.0, t)) (same_text-is x.1 y.1 both.1)

tied : (r q : Ordering) → r ≡ ordering_reverse q → is_lt r ≡ false → is_lt q ≡ false
    → is_eq r ≡ true
tied r Less h k l = absurd (true≢false l)
tied r Equal h k l = ap is_eq h
tied r Greater h k l = absurd (true≢false (sym (ap is_lt h) ∙ k))

-- of two ends that don't come before each other, each is the other
due_tied : (x y : Due) → is_lt (due_cmp x y) ≡ false → is_lt (due_cmp y x) ≡ false
    → same_due x y ≡ true
due_tied x y h k =
    let texts : Ordering = slice_cmp nat_cmp x.1 y.1 in
    let back : Ordering = slice_cmp nat_cmp y.1 x.1 in
    let below : x.0 ≤ y.0 = not_before x.0 y.0 (not_less (nat_cmp y.0 x.0) texts h) in
    let above : y.0 ≤ x.0 = not_before y.0 x.0 (not_less (nat_cmp x.0 y.0) back k) in
    let number : (x.0 == y.0) ≡ true = grind (arith, nat_tests) in
    let there : is_lt texts ≡ false =
    sym (ap (λ r. is_lt (ordering_then r texts)) (level y.0 x.0 above below)) ∙ h in
    let again : is_lt back ≡ false =
    sym (ap (λ r. is_lt (ordering_then r back)) (level x.0 y.0 below above)) ∙ k in
    ap (λ b. b && same_text x.1 y.1) number ∙ sym (is_eq-slice_cmp x.1 y.1)
    ∙ tied texts back (nat_list_cmp_total.antisymm x.1 y.1) there again
  where
    level : (m n : ℕ) → m ≤ n → n ≤ m → nat_cmp m n ≡ Equal
    level m n h k = grind (arith, nat_tests)

not_in : (d : Due) (f : Item) → same_due d (due_of f) ≡ false → is_lt (due_cmp d (due_of f)) ≡ false
    → (xs : List Item) → IsUpperBound entry_cmp f xs → is_in d (dues xs) ≡ false
not_in d f other after [] above = refl
not_in d f other after (y ∷ ys) above =
    let here : same_due d (due_of y) ≡ false = pick (same_due d (due_of y))
    (λ t. absurd (true≢false (sym (due_tied d (due_of f) after
    (subst (λ z. is_lt (due_cmp (due_of f) z) ≡ false) (sym (same-due-is d (due_of y) t)) above.0))
    ∙ other))) (λ e. e) in
    ap (λ b. b || is_in d (dues ys)) here ∙ not_in d f other after ys above.1

-- an end that none comes before is there if it is the first one
pub first-in : (d : Due) (f : Item) (xs : List Item) → f ≡ get_or xs 0 f → 0 < length xs
    → IsUpperBound entry_cmp f xs → IsFirst d (dues xs)
    → same_due d (due_of f) ≡ is_in d (dues xs)
first-in d f [] top some above first = absurd (omega arith)
first-in d f (y ∷ ys) top some above first =
    pick (same_due d (due_of f))
    (λ t. t ∙ sym (ap (λ b. b || is_in d (dues ys))
    (ap (λ (i : Item). same_due d (due_of i)) (sym top) ∙ t)))
    (λ e. e ∙ sym (not_in d f e
    (subst (λ (i : Item). is_lt (due_cmp d (due_of i)) ≡ false) (sym top) first.0)
    (y ∷ ys) above))

-- the same where their moments are known to be the same, and where they are known to differ
pub first-then : (d : Due) (f : Item) (xs : List Item) → f ≡ get_or xs 0 f → 0 < length xs
    → IsUpperBound entry_cmp f xs → IsFirst d (dues xs) → d.0 ≡ f.0.0
    → same_text d.1 (rc_str_bytes f.1) ≡ is_in d (dues xs)
first-then d f xs top some above first h =
    let number : (d.0 == f.0.0) ≡ true = grind (arith, nat_tests) in
    sym (ap (λ b. b && same_text d.1 (rc_str_bytes f.1)) number)
    ∙ first-in d f xs top some above first

pub first-else : (d : Due) (f : Item) (xs : List Item) → f ≡ get_or xs 0 f → 0 < length xs
    → IsUpperBound entry_cmp f xs → IsFirst d (dues xs) → (d.0 ≡ f.0.0 → ⊥)
    → (d.0 == f.0.0) ≡ is_in d (dues xs)
first-else d f xs top some above first h =
    let number : (d.0 == f.0.0) ≡ false =
    pick (d.0 == f.0.0) (λ t. absurd (h (eqb-true d.0 f.0.0 t))) (λ e. e) in
    number ∙ sym (ap (λ b. b && same_text d.1 (rc_str_bytes f.1)) number)
    ∙ first-in d f xs top some above first

-- none that is left comes before the one that was taken out
pub first-popped : (x : Item) (ys : List Item) → IsUpperBound entry_cmp x ys
    → IsFirst (due_of x) (dues ys)
first-popped x [] above = tt
first-popped x (y ∷ ys) above = (above.0, first-popped x ys above.1)

none_until : (moment : ℕ) (x : Item) (xs : List Item) → nat_le x.0.0 moment ≡ false
    → IsUpperBound entry_cmp x xs → list_any (λ due. nat_le due.0 moment) (dues xs) ≡ false
none_until moment x [] h above = refl
none_until moment x (y ∷ ys) h above =
    let later : x.0.0 ≤ y.0.0 = not_before x.0.0 y.0.0 (not_less _ _ above.0) in
    let here : nat_le y.0.0 moment ≡ false = grind (arith, nat_tests) in
    ap (λ b. b || list_any (λ due. nat_le due.0 moment) (dues ys)) here
    ∙ none_until moment x ys h above.1

-- the first speaks of all
pub until-first : (moment : ℕ) (x : Item) (xs : List Item) → x ≡ get_or xs 0 x → 0 < length xs
    → IsUpperBound entry_cmp x xs
    → nat_le x.0.0 moment ≡ list_any (λ due. nat_le due.0 moment) (dues xs)
until-first moment x [] top some above = absurd (omega arith)
until-first moment x (y ∷ ys) top some above =
    let any : Bool = list_any (λ due. nat_le due.0 moment) (dues ys) in
    let P : Bool → Type 0 = λ b. nat_le x.0.0 moment ≡ b
    → b ≡ list_any (λ due. nat_le due.0 moment) (dues (y ∷ ys)) in
    (elim (nat_le x.0.0 moment) as P [
      | true ↦ λ e. ap (λ b. b || any)
          (sym e ∙ ap (λ (i : Item). nat_le i.0.0 moment) top)
      | false ↦ λ e. sym (none_until moment x (y ∷ ys) e above)
    ]) refl
