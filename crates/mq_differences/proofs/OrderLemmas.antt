-- Rows in the order of their places.
use Rattle.std.proofs.Common.{◌≡◌, ◌+◌, ◌<◌, ◌≤◌, ℕ, suc, Bool, true, false, ◌||◌, ◌&&◌, cond}
use Rattle.std.proofs.Common.{◌==◌, List, [], ◌∷◌, ◌++◌, All, length, get_or, refl, ap, sym, ◌∙◌}
use Rattle.std.proofs.Common.{arith}
use Rattle.std.specs.List.{filter, sum_by}
use Rattle.std.specs.List.Sorted.{IsNonDecreasingBy, IsPermutation}
use Rattle.std.proofs.lemmas.Bool.Decides.{nat_tests}
use Rattle.std.proofs.lemmas.List.Elements.{All-head, All-tail, All-filter}
use Rattle.std.proofs.lemmas.List.Elements.{All-append}
use Rattle.std.proofs.lemmas.List.Sorted.{All-permutation, sum_by-IsPermutation}
use Rattle.std.proofs.lemmas.List.Sums.{sum_by-cons}
use Rattle.mq_differences.specs.Marks.{ArePlaced}
use Rattle.mq_differences.specs.declared.marks.Marked.{Marked}
use Rattle.mq_differences.proofs.MarkLemmas.{get_same}

-- how many stand at a place
abbrev at_place : ℕ → Marked → ℕ
at_place k m = cond (m.place == k) 1 0

abbrev total : (Marked → ℕ) → List Marked → ℕ
total f [] = 0
total f (m ∷ ms) = f m + total f ms

total_is : (f : Marked → ℕ) (ms : List Marked) → sum_by f ms ≡ total f ms
total_is f [] = refl
total_is f (m ∷ ms) = sum_by-cons f m ms ∙ ap (λ n. f m + n) (total_is f ms)

total-append : (f : Marked → ℕ) (xs ys : List Marked)
    → total f (xs ++ ys) ≡ total f xs + total f ys
total-append f [] ys = let e : total f ys ≡ 0 + total f ys = omega arith in e
total-append f (x ∷ xs) ys = ap (λ n. f x + n) (total-append f xs ys) ∙ added (f x) (total f xs)
    (total f ys)
  where
    added : (a b c : ℕ) → a + (b + c) ≡ a + b + c
    added a b c = omega arith

abbrev count : ℕ → List Marked → ℕ
count k ms = total (at_place k) ms

one_here : (k : ℕ) (m : Marked) → m.place ≡ k → at_place k m ≡ 1
one_here k m e = grind (arith, nat_tests)

none_here : (k : ℕ) (m : Marked) → k < m.place → at_place k m ≡ 0
none_here k m h = grind (arith, nat_tests)

both_none : (a b : ℕ) → a ≡ 0 → b ≡ 0 → a + b ≡ 0
both_none a b e f = omega arith

one_more : (a b : ℕ) → a ≡ 1 → a + b ≡ 0 → ⊥
one_more a b e f = omega arith

cancelled : (a b c d : ℕ) → a ≡ c → a + b ≡ c + d → b ≡ d
cancelled a b c d e f = omega arith

added_left : (n a b c : ℕ) → a + b ≡ c → n + a + b ≡ n + c
added_left n a b c e = omega arith

added_right : (n a b c : ℕ) → a + b ≡ c → a + (n + b) ≡ n + c
added_right n a b c e = omega arith

none_above : (k : ℕ) (ms : List Marked) → All (λ (m : Marked). k < m.place) ms → count k ms ≡ 0
none_above k [] h = refl
none_above k (m ∷ ms) h =
    let first = none_here k m (All-head (λ (m : Marked). k < m.place) m ms h) in
    let rest = none_above k ms (All-tail (λ (m : Marked). k < m.place) m ms h) in
    both_none (at_place k m) (count k ms) first rest

-- ---- one after the other
abbrev Rises : List Marked → Type 0
Rises [] = Unit {0}
Rises (m ∷ ms) = All (λ (o : Marked). m.place < o.place) ms × Rises ms

-- the row is that of its place
abbrev IsThere : List Marked → Marked → Type 0
IsThere rows m = (m.place < length rows) × (m ≡ get_or rows m.place m)

same_there : (rows : List Marked) (a b : Marked) → IsThere rows a → IsThere rows b
    → a.place ≡ b.place → a ≡ b
same_there rows a b f g e =
    f.1 ∙ get_same rows a.place a b f.0 ∙ ap (λ k. get_or rows k b) e ∙ sym g.1

tail_sorted : (m : Marked) (ms : List Marked)
    → IsNonDecreasingBy (λ (m : Marked). m.place) (m ∷ ms)
    → IsNonDecreasingBy (λ (m : Marked). m.place) ms
tail_sorted m ms s i j d low high = s (suc i) (suc j) d (omega arith) (omega arith)

head_sorted : (m : Marked) (ms : List Marked)
    → IsNonDecreasingBy (λ (m : Marked). m.place) (m ∷ ms)
    → All (λ (o : Marked). m.place ≤ o.place) ms
head_sorted m ms s k d low = s 0 (suc k) d (omega arith) (omega arith)

above_weaker : (k n : ℕ) (ms : List Marked) → k < n → All (λ (m : Marked). n ≤ m.place) ms
    → All (λ (m : Marked). k < m.place) ms
above_weaker k n ms h all i d low = let a = all i d low in omega arith

above_later : (k n : ℕ) (ms : List Marked) → k < n → All (λ (m : Marked). n < m.place) ms
    → All (λ (m : Marked). k < m.place) ms
above_later k n ms h all i d low = let a = all i d low in omega arith

between : (a b : ℕ) → (a < b → ⊥) → (b < a → ⊥) → a ≡ b
between a b f g = omega arith

-- with as many at each place, in order, they are the same
pub same_in_order : (rows xs ys : List Marked) → Rises xs
    → IsNonDecreasingBy (λ (m : Marked). m.place) ys → All (IsThere rows) xs → All (IsThere rows) ys
    → ((k : ℕ) → count k ys ≡ count k xs) → ys ≡ xs
same_in_order rows [] [] r s f g e = refl
same_in_order rows [] (y ∷ ys) r s f g e =
    absurd (one_more (at_place y.place y) (count y.place ys) (one_here y.place y refl) (e y.place))
same_in_order rows (x ∷ xs) [] r s f g e =
    absurd (one_more (at_place x.place x) (count x.place xs) (one_here x.place x refl)
    (sym (e x.place)))
same_in_order rows (x ∷ xs) (y ∷ ys) r s f g e =
    let not_below : y.place < x.place → ⊥ = (λ h.
    one_more (at_place y.place y) (count y.place ys) (one_here y.place y refl)
    (e y.place ∙ both_none (at_place y.place x) (count y.place xs) (none_here y.place x h)
    (none_above y.place xs (above_later y.place x.place xs h r.0)))) in
    let not_above : x.place < y.place → ⊥ = (λ h.
    one_more (at_place x.place x) (count x.place xs) (one_here x.place x refl)
    (sym (e x.place) ∙ both_none (at_place x.place y) (count x.place ys) (none_here x.place y h)
    (none_above x.place ys (above_weaker x.place y.place ys h (head_sorted y ys s))))) in
    let same = same_there rows y x (All-head (IsThere rows) y ys g)
    (All-head (IsThere rows) x xs f) (between y.place x.place not_below not_above) in
    let rest = same_in_order rows xs ys r.1 (tail_sorted y ys s)
    (All-tail (IsThere rows) x xs f) (All-tail (IsThere rows) y ys g)
    (λ k. cancelled (at_place k y) (count k ys) (at_place k x) (count k xs)
    (ap (at_place k) same) (e k)) in
    (λ i. same i ∷ rest i)

-- ---- rows that are filtered
abbrev ArePlacedFrom : ℕ → List Marked → Type 0
ArePlacedFrom n rows = (k : ℕ) (m : Marked) → k < length rows → (get_or rows k m).place ≡ n + k

from_tail : (n : ℕ) (r : Marked) (rows : List Marked) → ArePlacedFrom n (r ∷ rows)
    → ArePlacedFrom (suc n) rows
from_tail n r rows p k d low = let e = p (suc k) d (omega arith) in omega arith

all_above : (n : ℕ) (r : Marked) (rows : List Marked) → ArePlacedFrom n (r ∷ rows)
    → All (λ (m : Marked). r.place < m.place) rows
all_above n r rows p k d low =
    let e = p (suc k) d (omega arith) in let f = p 0 d (omega arith) in omega arith

filter_rises : (q : Marked → Bool) (n : ℕ) (rows : List Marked) → ArePlacedFrom n rows
    → Rises (filter q rows)
filter_rises q n [] p = tt
filter_rises q n (r ∷ rows) p = at (q r) (filter_rises q (suc n) rows (from_tail n r rows p))
  where
    at : (b : Bool) → Rises (filter q rows)
        → Rises (cond b (r ∷ filter q rows) (filter q rows))
    at true h = (All-filter q (λ (m : Marked). r.place < m.place) rows (all_above n r rows p), h)
    at false h = h

all_there : (rows : List Marked) → ArePlaced rows → All (IsThere rows) rows
all_there rows p k d low =
    let e = p k d low in (
      let low' : (get_or rows k d).place < length rows = omega arith in low',
      get_same rows k d (get_or rows k d) low ∙ ap (λ j. get_or rows j (get_or rows k d)) (sym e),
    )

-- those that pass one of two tests, which none passes both
sum_either : (f : Marked → ℕ) (a b : Marked → Bool) (rows : List Marked)
    → ((m : Marked) → (a m && b m) ≡ false)
    → total f (filter a rows) + total f (filter b rows)
    ≡ total f (filter (λ m. a m || b m) rows)
sum_either f a b [] h = refl
sum_either f a b (r ∷ rows) h = at (a r) (b r) (h r) (sum_either f a b rows h)
  where
    at : (x y : Bool) → (x && y) ≡ false
        → total f (filter a rows) + total f (filter b rows)
        ≡ total f (filter (λ m. a m || b m) rows)
        → total f (cond x (r ∷ filter a rows) (filter a rows))
        + total f (cond y (r ∷ filter b rows) (filter b rows))
        ≡ total f (cond (x || y) (r ∷ filter (λ m. a m || b m) rows)
        (filter (λ m. a m || b m) rows))
    at true true e k = absurd (let q : true ≡ false = e in cc)
    at true false e k = added_left (f r) (total f (filter a rows)) (total f (filter b rows))
        (total f (filter (λ m. a m || b m) rows)) k
    at false true e k = added_right (f r) (total f (filter a rows)) (total f (filter b rows))
        (total f (filter (λ m. a m || b m) rows)) k
    at false false e k = k

-- two groups of the rows, put together in the order of their places, are those of either group
pub merged : (rows all : List Marked) (a b : Marked → Bool) → ArePlaced rows
    → ((m : Marked) → (a m && b m) ≡ false)
    → IsPermutation (filter a rows ++ filter b rows) all
    → IsNonDecreasingBy (λ (m : Marked). m.place) all
    → all ≡ filter (λ m. a m || b m) rows
merged rows all a b p apart moved sorted =
    let there = all_there rows p in
    let from : ArePlacedFrom 0 rows = (λ k d low. let e = p k d low in omega arith) in
    same_in_order rows (filter (λ m. a m || b m) rows) all
    (filter_rises (λ m. a m || b m) 0 rows from) sorted
    (All-filter (λ m. a m || b m) (IsThere rows) rows there)
    (All-permutation (IsThere rows) (filter a rows ++ filter b rows) all moved
    (All-append (IsThere rows) (filter a rows) (filter b rows)
    (All-filter a (IsThere rows) rows there) (All-filter b (IsThere rows) rows there)))
    (λ k. sym (total_is (at_place k) all)
    ∙ sum_by-IsPermutation (at_place k) (filter a rows ++ filter b rows) all moved
    ∙ total_is (at_place k) (filter a rows ++ filter b rows)
    ∙ total-append (at_place k) (filter a rows) (filter b rows)
    ∙ sum_either (at_place k) a b rows apart)
