-- Identifiers that are sorted.
use Rattle.std.proofs.Common.{◌≡◌, ℕ, suc, ◌+◌, true, false, cond, List, [], ◌∷◌, get_or, refl, sym}
use Rattle.std.proofs.Common.{◌∙◌, ap, subst, arith, nat_le}
use Rattle.std.specs.Ordering.{is_lt, nat_cmp}
use Rattle.std.specs.List.Sorted.{IsPermutation, IsSorted}
use Rattle.std.proofs.lemmas.List.Sorted.{sum_by-IsPermutation}
use Rattle.std.proofs.lemmas.List.Sums.{length-filter}
use Rattle.std.proofs.lemmas.Cmp.{ranked}
use Rattle.std.proofs.lemmas.Bool.Decides.{nat_tests}
use Rattle.mq_world.specs.Lists.{SameElements, ascending, insert_number}
use Rattle.mq_world.proofs.SameLemmas.{ascending-SameElements}

permuted-same : {X : Type 0} (xs ys : List X) → IsPermutation xs ys → SameElements xs ys
permuted-same xs ys h = λ p. length-filter p xs
    ∙ sym (sum_by-IsPermutation (λ x. cond (p x) 1 0) xs ys h) ∙ sym (length-filter p ys)

le_from_sorted : (y z : ℕ) → is_lt (nat_cmp z y) ≡ false → nat_le y z ≡ true
le_from_sorted y z h = grind (arith, ranked, nat_tests)

tail_sorted : (y : ℕ) (ys : List ℕ) → IsSorted nat_cmp (y ∷ ys) → IsSorted nat_cmp ys
tail_sorted y ys h = λ k d low high.
    let one : suc k + 1 ≡ suc (k + 1) = omega arith in
    let Q : ℕ → Type 0 = λ i. is_lt (nat_cmp (get_or (y ∷ ys) i d) (get_or (y ∷ ys) (suc k) d))
    ≡ false in
    subst Q one (h (suc k) d (omega arith) (omega arith))

-- numbers that are sorted stay in their order
pub ascending-sorted : (ys : List ℕ) → IsSorted nat_cmp ys → ascending ys ≡ ys
ascending-sorted [] h = refl
ascending-sorted (y ∷ []) h = refl
ascending-sorted (y ∷ z ∷ zs) h =
    let rest : ascending (z ∷ zs) ≡ z ∷ zs = ascending-sorted (z ∷ zs) (tail_sorted y (z ∷ zs) h) in
    let first : nat_le y z ≡ true = le_from_sorted y z (h 0 0 (omega arith) (omega arith)) in
    ap (insert_number y) rest ∙ rw first refl

-- a sorted permutation of numbers is these numbers in ascending order
pub sorted-is : (xs ys : List ℕ) → IsPermutation xs ys → IsSorted nat_cmp ys → ys ≡ ascending xs
sorted-is xs ys moved sorted = sym (ascending-sorted ys sorted)
    ∙ sym (ascending-SameElements xs ys (permuted-same xs ys moved))
