-- A long line is known by its front.
use Rattle.std.proofs.Common.{◌≡◌, ◌⊎◌, inl, inr, ◌≤◌, ◌<◌, ◌-◌, ℕ, zero, suc, ◌+◌, List, [], ◌∷◌}
use Rattle.std.proofs.Common.{◌++◌, true, false, eqb, ltb, length, take, min, refl, sym, ap, ◌∙◌}
use Rattle.std.proofs.Common.{arith, length-take}
use Rattle.std.proofs.lemmas.Bool.{cases_lt, lt-ltb}
use Rattle.std.proofs.lemmas.Bool.Decides.{Decides-eqb}
use Rattle.std.proofs.lemmas.List.{take_all}
use Rattle.mq_jsonl.specs.Reading.{reading, line_limit}
use Rattle.mq_jsonl.specs.Lines.{kept, piece_line}

-- one byte more than a line may have is kept
pub kept_is : kept ≡ line_limit + 1
unfolding kept
kept_is = refl

-- how many bytes of a line are kept
pub kept_number : kept ≡ 1048577
unfolding kept
kept_number = refl

over_limit : (n limit : ℕ) (p : List ℕ) → n ≡ limit + 1 → limit < length p
    → limit < length (take n p)
over_limit n limit p e h = simp length-take (omega arith)

reading_at : (p : List ℕ) → (line_limit < length p) ⊎ (length p ≤ line_limit)
    → reading (take kept p) ≡ reading p
unfolding reading
reading_at p (inl h) =
    let a : ltb line_limit (length p) ≡ true = lt-ltb line_limit (length p) h in
    let b : ltb line_limit (length (take kept p)) ≡ true =
    lt-ltb line_limit (length (take kept p)) (over_limit kept line_limit p kept_is h) in
    rw (b, a)
reading_at p (inr h) = let e = kept_is in ap reading (take_all kept p (omega arith))

-- what is kept of a line is read as the line is
pub reading-kept : (p : List ℕ) → reading (take kept p) ≡ reading p
reading-kept p = reading_at p (cases_lt line_limit (length p))

-- ## What is kept of a line that grows

minus_zero : (k : ℕ) → k - 0 ≡ k
minus_zero k = omega arith

minus_suc : (k n : ℕ) → suc k - suc n ≡ k - n
minus_suc k n = omega arith

take_more : (k : ℕ) (p xs : List ℕ) → take k p ++ take (k - length (take k p)) xs ≡ take k (p ++ xs)
take_more zero p xs = refl
take_more (suc k) [] xs = ap (λ (n : ℕ). take n xs) (minus_zero (suc k))
take_more (suc k) (x ∷ p) xs =
    ap (λ (n : ℕ). x ∷ (take k p ++ take n xs)) (minus_suc k (length (take k p)))
    ∙ ap (λ l. x ∷ l) (take_more k p xs)

-- what is kept of a line grows, with more bytes, to what is kept of the longer line
pub kept_more : (line p xs : List ℕ) → line ≡ take kept p
    → line ++ take (kept - length line) xs ≡ take kept (p ++ xs)
kept_more line p xs e = ap (λ l. l ++ take (kept - length l) xs) e ∙ take_more kept p xs

-- ## A last piece

-- a piece of which nothing is kept is empty
pub no_piece : (p : List ℕ) → take kept p ≡ [] → p ≡ []
no_piece [] h = refl
no_piece (x ∷ xs) h =
    let k = kept_is in
    let e : min kept (length (x ∷ xs)) ≡ 0 = sym (length-take kept (x ∷ xs)) ∙ ap length h in
    absurd (omega arith)

-- a last piece of which something is kept is a line
pub some_piece : (p line : List ℕ) → line ≡ take kept p → (line ≡ [] → ⊥) → piece_line p ≡ p ∷ []
some_piece [] line e h = absurd (h (e ∙ take_all kept [] (omega arith)))
some_piece (x ∷ xs) line e h = refl

-- a list whose count is 0 is empty
pub nil_from_count : (n : ℕ) (l : List ℕ) → n ≡ length l → eqb n 0 ≡ true → l ≡ []
nil_from_count n [] e h = refl
nil_from_count n (x ∷ xs) e h = absurd (let zero : n ≡ 0 = (Decides-eqb n 0).0 h in omega arith)

-- a list whose count isn't 0 isn't empty
pub not_nil_from_count : (n : ℕ) (l : List ℕ) → n ≡ length l → eqb n 0 ≡ false → l ≡ [] → ⊥
not_nil_from_count n [] e h f = let bad : true ≡ false = sym (ap (λ k. eqb k 0) e) ∙ h in cc
not_nil_from_count n (x ∷ xs) e h f = cc
