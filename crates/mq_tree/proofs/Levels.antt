-- Whether two levels are the same, and which comes first.
use Rattle.std.proofs.Common.{◌≡◌, ◌≢◌, ℕ, ◌≤◌, true, false, cond, List, [], ◌∷◌, length, Less}
use Rattle.std.proofs.Common.{Equal, Greater, nat_cmp, nat_lt, eqb, get_or, arith, refl}
use Rattle.std.specs.Str.{bytes_eq}
use Rattle.std.specs.Cmp.Lexicographic.{slice_cmp}
use Rattle.std.specs.Ordering.{is_lt, ordering_then}
use Rattle.std.proofs.lemmas.Cmp.{nat_list_cmp_total, tied_itself}
use Rattle.std.proofs.lemmas.Map.Lookups.{exact_bytes}
use Rattle.mq_topic.proofs.ByteLemmas.{text_is, text_itself}
use Rattle.mq_tree.specs.Below.{hash, plus, is_before, in_order_of}

-- levels that differ fail the test of bytes
pub not_same : (l m : List ℕ) → l ≢ m → bytes_eq l m ≡ false
not_same l m n = grind (arith, text_is l m)

-- a level fails the test of bytes with one that comes before it
pub apart_from_less : (l m : List ℕ) → slice_cmp nat_cmp m l ≡ Less → bytes_eq l m ≡ false
apart_from_less l m e = grind (arith, text_is l m, tied_itself nat_list_cmp_total m)

-- a level fails the test of bytes with one that comes after it
pub apart_from_greater : (l m : List ℕ) → slice_cmp nat_cmp l m ≡ Less → bytes_eq l m ≡ false
apart_from_greater l m e = grind (arith, text_is l m, tied_itself nat_list_cmp_total l)

-- levels that fail the test of bytes fail it in the other order
pub flipped : (l m : List ℕ) → bytes_eq l m ≡ false → bytes_eq m l ≡ false
flipped l m h = grind (arith, text_itself l, text_is m l)

not_before_empty : (l : List ℕ) → false ≡ is_before l []
not_before_empty [] = refl
not_before_empty (x ∷ xs) = refl

-- the first byte tells whether a level comes before one of a single byte
pub before_byte : (l : List ℕ) (b : ℕ) → 1 ≤ length l
    → nat_lt (get_or l 0 0) b ≡ is_before l (b ∷ [])
before_byte [] b h = absurd (omega (arith, h))
before_byte (x ∷ xs) b h =
    elim (nat_lt x b)
    as (λ a. a ≡ is_lt (ordering_then (cond a Less (cond (eqb x b) Equal Greater))
    (slice_cmp nat_cmp xs []))) [
      | true ↦ refl
      | false ↦ elim (eqb x b)
          as (λ e. false ≡ is_lt (ordering_then (cond e Equal Greater) (slice_cmp nat_cmp xs [])))
          [ true ↦ not_before_empty xs | false ↦ refl ]
    ]

-- of a level that does not come before `+`: `#` comes before it, and so does `+` where it is another
pub hash_first : (l : List ℕ) → is_before l plus ≡ false → slice_cmp nat_cmp hash l ≡ Less
hash_first l h =
    grind (
      arith,
      exact_bytes l plus,
      nat_list_cmp_total.antisymm plus l,
      nat_list_cmp_total.trans hash plus l refl,
    )

-- a level that does not come before `+`, and is not `+`, comes after it
pub plus_first : (l : List ℕ) → is_before l plus ≡ false → l ≢ plus
    → slice_cmp nat_cmp plus l ≡ Less
plus_first l h n = grind (arith, exact_bytes l plus, nat_list_cmp_total.antisymm plus l)

-- such a level is looked for last
pub last_in_order : (n : List ℕ) → is_before n plus ≡ false → in_order_of n ≡ hash ∷ plus ∷ n ∷ []
last_in_order n h = grind (arith, hash_first n h, nat_list_cmp_total.antisymm n hash)
