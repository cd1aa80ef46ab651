-- Texts that begin with one that no row's level begins with.
use Rattle.std.proofs.Common.{◌≡◌, ℕ, ◌+◌, ◌/◌, ◌%◌, true, false, not, List, [], ◌∷◌, ◌++◌, length}
use Rattle.std.proofs.Common.{refl, ap, sym, ◌∙◌, arith, length-append}
use Rattle.std.proofs.Common.{◌<◌, ◌≤◌, ◌^◌, map}
use Rattle.std.proofs.lemmas.List.{append_cancel_left, append-nil, length-map, map-append}
use Rattle.std.proofs.lemmas.Int.Digits.{digits_of_step, length-digits_of_step, same_from_digits_of}
use Rattle.std.proofs.lemmas.Fmt.{decimal_by_steps}
use Rattle.std.specs.Fmt.{decimal}
use Rattle.std.specs.Int.Digits.{digits_of}
use Rattle.std.proofs.Math.Nat.{div-add-mod}
use Rattle.std.specs.Prelude.{nat_eq}
use Rattle.std.specs.List.{starts_with}
use Rattle.mq_unify.specs.Unlike.{fresh_text, is_unlike}

begins : (prefix rest : List ℕ) → starts_with nat_eq (prefix ++ rest) prefix ≡ true
begins [] rest = refl
begins (x ∷ xs) rest = grind (arith, begins xs rest)

-- what has more behind the prefix begins with it
pub longer_is : (prefix rest : List ℕ) → is_unlike prefix (prefix ++ rest) ≡ false
longer_is prefix rest = ap not (begins prefix rest)

pub itself_is : (prefix : List ℕ) → is_unlike prefix prefix ≡ false
itself_is prefix = ap (is_unlike prefix) (sym (append-nil prefix)) ∙ longer_is prefix []

abbrev pub figures : ℕ → List ℕ
figures n = map (λ d. 48 + d) (digits_of 10 n)

pub fresh_is : (prefix : List ℕ) (n : ℕ) → is_unlike prefix (fresh_text prefix n) ≡ false
fresh_is prefix n = longer_is prefix (figures (n + 1))

same_figures : (xs ys : List ℕ) → map (λ d. 48 + d) xs ≡ map (λ d. 48 + d) ys → xs ≡ ys
same_figures [] [] e = refl
same_figures [] (y ∷ ys) e = absurd (cc)
same_figures (x ∷ xs) [] e = absurd (cc)
same_figures (x ∷ xs) (y ∷ ys) e =
    let first : 48 + x ≡ 48 + y = cc in
    let rest : map (λ d. 48 + d) xs ≡ map (λ d. 48 + d) ys = cc in
    let same : x ≡ y = omega arith in
    (λ i. same i ∷ same_figures xs ys rest i)

-- no two of them are the same
pub fresh_apart : (prefix : List ℕ) (m n : ℕ) → fresh_text prefix m ≡ fresh_text prefix n → m ≡ n
fresh_apart prefix m n e =
    let same = same_from_digits_of 10 (m + 1) (n + 1) (omega arith)
    (same_figures (digits_of 10 (m + 1)) (digits_of 10 (n + 1))
    (append_cancel_left prefix (figures (m + 1)) (figures (n + 1)) e)) in
    omega arith

some_figures : (n : ℕ) → 0 < n → 0 < length (figures n)
some_figures n h =
    let e = length-digits_of_step 10 n (omega arith) h in
    omega (arith, length-map (digits_of 10 n) (λ d. 48 + d), e)

-- and none is the prefix
pub fresh_longer : (prefix : List ℕ) (n : ℕ) → fresh_text prefix n ≡ prefix → ⊥
fresh_longer prefix n e =
    let l = length-append prefix (figures (n + 1)) in
    let k : length (fresh_text prefix n) ≡ length prefix = ap length e in
    let some = some_figures (n + 1) (omega arith) in
    absurd (omega (arith, l, k, some))

-- what a number below 2 ^ 64 is written as
pub decimal_is : (n : ℕ) → 0 < n → n < 2 ^ 64 → decimal n ≡ figures n
decimal_is n some small = decimal_by_steps Written one more n small some
  where
    Written : ℕ → List ℕ → Type 0
    Written m ds = 0 < m → ds ≡ figures m

    one : (m : ℕ) → m < 10 → Written m ((48 + m) ∷ [])
    one m h s =
        let e = digits_of_step 10 m (omega arith) s in
        let zero_is : m / 10 ≡ 0 = omega (arith, div-add-mod m 10) in
        let rest_is : m % 10 ≡ m = omega (arith, div-add-mod m 10) in
        sym (ap (map (λ d. 48 + d)) (e ∙ (λ i. digits_of 10 (zero_is i) ++ rest_is i ∷ [])))

    more : (m : ℕ) (ds : List ℕ) → 10 ≤ m → Written (m / 10) ds
        → Written m (ds ++ (48 + m % 10) ∷ [])
    more m ds h before s =
        let e = digits_of_step 10 m (omega arith) s in
        let some : 0 < m / 10 = omega (arith, div-add-mod m 10) in
        ap (λ t. t ++ (48 + m % 10) ∷ []) (before some)
        ∙ sym (map-append (λ d. 48 + d) (digits_of 10 (m / 10)) (m % 10 ∷ []))
        ∙ sym (ap (map (λ d. 48 + d)) e)
