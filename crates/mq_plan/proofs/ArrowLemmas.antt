-- Where arrows stand.
use Rattle.std.proofs.Common.{◌≡◌, ◌==◌, ◌+◌, ◌<◌, ◌&&◌, ◌||◌, Bool, true, false, cond, ℕ, List}
use Rattle.std.proofs.Common.{length}
use Rattle.std.proofs.Common.{drop, zero, suc, Some, refl, ap, sym, ◌∙◌, subst}
use Rattle.std.proofs.Common.{arith, ⊎_elim}
use Rattle.std.specs.Prelude.{find, slice_index}
use Rattle.std.specs.List.{range_with_len}
use Rattle.std.specs.Str.{IsCharBoundary}
use Rattle.std.proofs.lemmas.Bool.{and_parts, cases_lt, eqb-true, or_cases}
use Rattle.std.proofs.lemmas.Bool.Decides.{nat_tests}
use Rattle.std.proofs.lemmas.List.{get_or-drop, get_or_past}
use Rattle.std.proofs.lemmas.Str.{IsCharBoundary-before_ascii, IsCharBoundary-end}
use Rattle.mq_acl.specs.Words.{is_blank}
use Rattle.mq_plan.specs.Lines.{arrow_place, is_arrow}

-- a number that passes is the first of those from it on that does
pub find-first : (p : ℕ → Bool) (n k : ℕ) → 0 < k → p n ≡ true
    → find p (range_with_len n k) ≡ Some n
find-first p n zero h e = absurd (omega arith)
find-first p n (suc k) h e = ap (λ b. cond b (Some n) (find p (range_with_len (n + 1) k))) e

-- one that doesn't pass isn't found
pub find-later : (p : ℕ → Bool) (n k m : ℕ) → k ≡ m + 1 → p n ≡ false
    → find p (range_with_len (n + 1) m) ≡ find p (range_with_len n k)
find-later p n zero m e h = absurd (omega arith)
find-later p n (suc k) m e h =
    ap (λ j. find p (range_with_len (n + 1) j)) (let same : m ≡ k = omega arith in same)
    ∙ sym (ap (λ b. cond b (Some n) (find p (range_with_len (n + 1) k))) h)

-- what is found passes, and is one of the numbers
found : (p : ℕ → Bool) (n k m : ℕ) → find p (range_with_len n k) ≡ Some m
    → (p m ≡ true) × (m < n + k)
found p n zero m e = absurd (cc)
found p n (suc k) m e = at (p n) refl (found p (n + 1) k m) e
  where
    at : (b : Bool) → p n ≡ b
        → (find p (range_with_len (n + 1) k) ≡ Some m → (p m ≡ true) × (m < n + 1 + k))
        → cond b (Some n) (find p (range_with_len (n + 1) k)) ≡ Some m
        → (p m ≡ true) × (m < n + suc k)
    at true t later f = let same : n ≡ m = cc in (ap p (sym same) ∙ t, omega arith)
    at false t later f = let is = later f in (is.0, omega (arith, is.1))

is_blank-ascii : (b : ℕ) → is_blank b ≡ true → b < 128
is_blank-ascii b e = grind (arith, nat_tests)

is_blank-some : (b : ℕ) → is_blank b ≡ true → 0 < b
is_blank-some b e = grind (arith, nat_tests)

-- what an arrow is
pub record IsArrow (text : List ℕ) : Type 0 where
  pub blank : is_blank (slice_index text 0) ≡ true
  pub some : 2 < length text
  pub end : (length text == 3 || is_blank (slice_index text 3)) ≡ true

inside : (text : List ℕ) (i : ℕ) → 0 < slice_index text i → i < length text
inside text i h =
    ⊎_elim (λ lt. lt)
    (λ ge. absurd (let none = get_or_past text i 0 ge in omega arith))
    (cases_lt i (length text))

pub arrow_parts : (text : List ℕ) → is_arrow text ≡ true → IsArrow text
arrow_parts text h =
    let blank = is_blank (slice_index text 0) in
    let dash = slice_index text 1 == 45 in
    let head = slice_index text 2 == 62 in
    let end = length text == 3 || is_blank (slice_index text 3) in
    let three = and_parts (blank && dash && head) end h in
    let two = and_parts (blank && dash) head three.0 in
    let one = and_parts blank dash two.0 in
    let is = eqb-true (slice_index text 2) 62 two.1 in
    record { blank = one.0; some = inside text 2 (omega arith); end = three.1 }

-- an arrow stands at the place
pub arrow_at : (text : List ℕ) (place : ℕ) → arrow_place text ≡ Some place
    → IsArrow (drop place text) × (place < length text)
arrow_at text place e =
    let is = found (λ i. is_arrow (drop i text)) 0 (length text) place e in
    (arrow_parts (drop place text) is.0, omega (arith, is.1))

-- a text can be cut before and behind it
pub boundary_before : (text : List ℕ) (place : ℕ) → arrow_place text ≡ Some place
    → IsCharBoundary text place
boundary_before text place e =
    let is = arrow_at text place e in
    IsCharBoundary-before_ascii text place is.1
    (subst (λ b. b < 128)
    (get_or-drop place text 0 0
    ∙ ap (slice_index text) (let same : place + 0 ≡ place = omega arith in same))
    (is_blank-ascii (slice_index (drop place text) 0) is.0.blank))

pub boundary_behind : (text : List ℕ) → IsArrow text → IsCharBoundary text 3
boundary_behind text is =
    ⊎_elim
    (λ all. subst (IsCharBoundary text) (eqb-true (length text) 3 all) (IsCharBoundary-end text))
    (λ blank. IsCharBoundary-before_ascii text 3
    (inside text 3 (is_blank-some (slice_index text 3) blank))
    (is_blank-ascii (slice_index text 3) blank))
    (or_cases (length text == 3) (is_blank (slice_index text 3)) is.end)
