-- The members of a group in the order of their stamps.
use Rattle.std.proofs.Common.{◌≡◌, ℕ, ◌≤◌, ◌<◌, Bool, cond, ◌&&◌, List, [], ◌∷◌, ◌++◌, map, Option}
use Rattle.std.proofs.Common.{Some, None, nat_le, refl, sym, ◌∙◌, ap, arith, filter, find}
use Rattle.std.specs.List.{list_all, AllByRecursion}
use Rattle.std.proofs.lemmas.Bool.{le-leb, lt-leb, leb-true, leb-false}
use Rattle.std.proofs.lemmas.Bool.Decides.{nat_tests}
use Rattle.std.proofs.Math.Bool.{and-true}
use Rattle.mq_world.specs.World.{Row}
use Rattle.mq_world.specs.Groups.{least_stamped}
use Rattle.mq_world.specs.Turns.{put_in_turn, by_turn}
use Rattle.mq_world.proofs.BoolLemmas.{pick}
use Rattle.mq_world.proofs.OrderLemmas.{all_weaker, all_filtered}

-- each stamp is at most those after it
abbrev pub IsInTurn : List Row → Type 0
IsInTurn [] = Unit {0}
IsInTurn (r ∷ rs) = AllByRecursion (λ o. r.stamp ≤ o.stamp) rs × IsInTurn rs

-- the row with the least stamp, the first of equal ones
abbrev least_of : Row → List Row → Row
least_of r [] = r
least_of r (o ∷ os) = cond (nat_le r.stamp (least_of o os).stamp) r (least_of o os)

abbrev least : List Row → Option Row
least [] = None
least (r ∷ rs) = Some (least_of r rs)

-- the row, or one with a lesser stamp
abbrev better : Row → Option Row → Option Row
better r None = Some r
better r (Some o) = Some (cond (nat_le r.stamp o.stamp) r o)

abbrev pub StampsBelow : ℕ → List Row → Type 0
StampsBelow n rs = AllByRecursion (λ r. r.stamp < n) rs

-- ## The member whose turn it is

all_from : (n m : ℕ) (rs : List Row) → n ≤ m → AllByRecursion (λ o. m ≤ o.stamp) rs
    → AllByRecursion (λ o. n ≤ o.stamp) rs
all_from n m rs h = all_weaker (λ (o : Row). m ≤ o.stamp) (λ o. n ≤ o.stamp) (λ o k. omega arith) rs

all-put : (P : Row → Type 0) (r : Row) (l : List Row) → P r → AllByRecursion P l
    → AllByRecursion P (put_in_turn r l)
all-put P r [] h k = (h, tt)
all-put P r (o ∷ os) h k =
    pick (nat_le r.stamp o.stamp) (λ t. rw t (h, k)) (λ n. rw n (k.0, all-put P r os h k.1))

-- what is true of each row is true of each of them in turn
pub all-by_turn : (P : Row → Type 0) (rows : List Row) → AllByRecursion P rows
    → AllByRecursion P (by_turn rows)
all-by_turn P [] h = tt
all-by_turn P (r ∷ rows) h = all-put P r (by_turn rows) h.0 (all-by_turn P rows h.1)

put-in_turn : (r : Row) (rs : List Row) → IsInTurn rs → IsInTurn (put_in_turn r rs)
put-in_turn r [] s = (tt, tt)
put-in_turn r (o ∷ os) s =
    pick (nat_le r.stamp o.stamp) (λ t. (let le : r.stamp ≤ o.stamp = leb-true _ _ t in
    rw t ((le, all_from r.stamp o.stamp os le s.0), s)))
    (λ n. (let gt : o.stamp < r.stamp = leb-false _ _ n in
    rw n (all-put (λ x. o.stamp ≤ x.stamp) r os (omega arith) s.0, put-in_turn r os s.1)))

-- rows that are put in the order of their stamps are in turn
pub by_turn-in_turn : (rs : List Row) → IsInTurn (by_turn rs)
by_turn-in_turn [] = tt
by_turn-in_turn (r ∷ rs) = put-in_turn r (by_turn rs) (by_turn-in_turn rs)

-- r before all: whichever is found after it has no lesser stamp
found_after : (able : Row → Bool) (r : Row) (l : List Row)
    → AllByRecursion (λ o. r.stamp ≤ o.stamp) l → better r (find able l) ≡ Some r
found_after able r [] h = refl
found_after able r (o ∷ os) h =
    pick (able o) (λ t. rw (t, le-leb r.stamp o.stamp h.0)) (λ n. rw n (found_after able r os h.1))

-- of the rows in turn, the first is the least
find-put : (able : Row → Bool) (r : Row) (l : List Row) → IsInTurn l
    → find able (put_in_turn r l) ≡ cond (able r) (better r (find able l)) (find able l)
find-put able r [] s = refl
find-put able r (o ∷ os) s =
    pick (nat_le r.stamp o.stamp) (λ t. (let le : r.stamp ≤ o.stamp = leb-true _ _ t in
    rw (t, found_after able r (o ∷ os) (le, all_from r.stamp o.stamp os le s.0))))
    (λ n. rw n (pick (able o) (λ t. rw (t, n) (pick (able r) (λ u. rw u) (λ u. rw u)))
    (λ u. rw u (find-put able r os s.1))))

least-cons : (r : Row) (rows : List Row) → least (r ∷ rows) ≡ better r (least rows)
least-cons r [] = refl
least-cons r (o ∷ os) = refl

-- the first row in turn that passes a test is the least of those that pass
pub turn-is-least : (able : Row → Bool) (rows : List Row)
    → find able (by_turn rows) ≡ least (filter able rows)
turn-is-least able [] = refl
turn-is-least able (r ∷ rows) =
    rw (find-put able r (by_turn rows) (by_turn-in_turn rows), turn-is-least able rows)
    (pick (able r) (λ t. rw t (sym (least-cons r (filter able rows)))) (λ n. rw n))

-- ## A new stamp goes last

-- a row with a stamp above all of a list is put at its end
pub put-last : (r : Row) (l : List Row) → StampsBelow r.stamp l → put_in_turn r l ≡ l ++ r ∷ []
put-last r [] h = refl
put-last r (o ∷ os) h = rw (lt-leb r.stamp o.stamp h.0) (ap (λ k. o ∷ k) (put-last r os h.1))

-- ## Leaving, and new options

put-first : (r : Row) (l : List Row) → AllByRecursion (λ o. r.stamp ≤ o.stamp) l
    → put_in_turn r l ≡ r ∷ l
put-first r [] h = refl
put-first r (o ∷ os) h = rw (le-leb r.stamp o.stamp h.0)

-- a filter keeps the turns of those that stay
filter-put : (q : Row → Bool) (r : Row) (l : List Row) → IsInTurn l
    → filter q (put_in_turn r l) ≡ cond (q r) (put_in_turn r (filter q l)) (filter q l)
filter-put q r [] s = refl
filter-put q r (o ∷ os) s =
    pick (nat_le r.stamp o.stamp) (λ t. (let le : r.stamp ≤ o.stamp = leb-true _ _ t in
    rw (t) (rw (put-first r (filter q (o ∷ os))
    (all_filtered (λ (x : Row). r.stamp ≤ x.stamp) q (o ∷ os)
    (le, all_from r.stamp o.stamp os le s.0))))))
    (λ n. rw (n, filter-put q r os s.1)
    (pick (q o) (λ t. rw (t, n) (pick (q r) (λ u. rw u) (λ u. rw u))) (λ u. rw u)))

-- to filter rows and put them in turn is to put them in turn and filter
pub by_turn-filter : (q : Row → Bool) (rows : List Row)
    → by_turn (filter q rows) ≡ filter q (by_turn rows)
by_turn-filter q [] = refl
by_turn-filter q (r ∷ rows) =
    rw (filter-put q r (by_turn rows) (by_turn-in_turn rows), ← by_turn-filter q rows)
    (pick (q r) (λ t. rw t) (λ n. rw n))

-- a change that leaves each stamp leaves the turns
map-put : (f : Row → Row) (r : Row) (l : List Row) → ((x : Row) → (f x).stamp ≡ x.stamp)
    → map f (put_in_turn r l) ≡ put_in_turn (f r) (map f l)
map-put f r [] keeps = refl
map-put f r (o ∷ os) keeps =
    let same : nat_le (f r).stamp (f o).stamp ≡ nat_le r.stamp o.stamp = rw (keeps r, keeps o) in
    rw same (pick (nat_le r.stamp o.stamp) (λ t. rw t)
    (λ n. rw n (ap (λ l. f o ∷ l) (map-put f r os keeps))))

-- and so it is with a change of each row that leaves its stamp
pub by_turn-map : (f : Row → Row) (rows : List Row) → ((x : Row) → (f x).stamp ≡ x.stamp)
    → by_turn (map f rows) ≡ map f (by_turn rows)
by_turn-map f [] keeps = refl
by_turn-map f (r ∷ rows) keeps = ap (put_in_turn (f r)) (by_turn-map f rows keeps)
    ∙ sym (map-put f r (by_turn rows) keeps)

-- ## The least stamp, by a test of every row against every other

left_less : (n a b : ℕ) → a ≤ b → (nat_le n a && nat_le n b) ≡ nat_le n a
left_less n a b h = grind (arith, nat_tests)

right_less : (n a b : ℕ) → b < a → (nat_le n a && nat_le n b) ≡ nat_le n b
right_less n a b h = grind (arith, nat_tests)

-- a number is at most every row just where it is at most the least
at_most : (n : ℕ) (r : Row) (rs : List Row)
    → list_all (λ o. nat_le n o.stamp) (r ∷ rs) ≡ nat_le n (least_of r rs).stamp
at_most n r [] = and-true (nat_le n r.stamp)
at_most n r (o ∷ os) =
    let b : Row = least_of o os in
    rw (at_most n o os) (pick (nat_le r.stamp b.stamp)
    (λ t. rw t (left_less n r.stamp b.stamp (leb-true _ _ t)))
    (λ f. rw f (right_less n r.stamp b.stamp (leb-false _ _ f))))

find-same : {X : Type 0} (p q : X → Bool) → ((x : X) → p x ≡ q x) → (xs : List X)
    → find p xs ≡ find q xs
find-same p q h [] = refl
find-same p q h (x ∷ xs) = rw (h x, find-same p q h xs)

least_stamped-cons : (r : Row) (rs : List Row) → least_stamped (r ∷ rs) ≡ Some (least_of r rs)
least_stamped-cons r [] = rw (le-leb r.stamp r.stamp (omega arith))
least_stamped-cons r (o ∷ os) =
    let b : Row = least_of o os in
    let all : Row → Bool = λ row. list_all (λ x. nat_le row.stamp x.stamp) (o ∷ os) in
    rw (le-leb r.stamp r.stamp (omega arith), at_most r.stamp o os) (pick (nat_le r.stamp b.stamp)
    (λ t. rw t)
    (λ f. rw f (find-same (λ row. nat_le row.stamp r.stamp && all row) all
    (λ row. rw (at_most row.stamp o os)
    (right_less row.stamp r.stamp b.stamp (leb-false _ _ f))) (o ∷ os) ∙ least_stamped-cons o os)))

-- the first row whose stamp is at most every other's is the least row
pub least_stamped-is : (rows : List Row) → least_stamped rows ≡ least rows
least_stamped-is [] = refl
least_stamped-is (r ∷ rs) = least_stamped-cons r rs

-- ## What the world's turns are, by the order of the rows

-- of the rows that pass a test, the one with the least stamp is the first in turn
pub least-is : (able : Row → Bool) (rows : List Row)
    → least_stamped (filter able rows) ≡ find able (by_turn rows)
least-is able rows = least_stamped-is (filter able rows) ∙ sym (turn-is-least able rows)

put_before : (o : Row) (l : List Row) (last : Row) → o.stamp < last.stamp
    → put_in_turn o (l ++ last ∷ []) ≡ put_in_turn o l ++ last ∷ []
put_before o [] last b = rw (le-leb o.stamp last.stamp (omega arith))
put_before o (y ∷ l) last b =
    pick (nat_le o.stamp y.stamp) (λ t. rw t) (λ n. rw n (ap (λ m. y ∷ m) (put_before o l last b)))

-- a row with a stamp above all others stands last
pub by_turn-last : (front : List Row) (r : Row) (back : List Row) → StampsBelow r.stamp front
    → StampsBelow r.stamp back → by_turn (front ++ r ∷ back) ≡ by_turn (front ++ back) ++ r ∷ []
by_turn-last [] r back h k = put-last r (by_turn back) (all-by_turn (λ o. o.stamp < r.stamp) back k)
by_turn-last (x ∷ front) r back h k = ap (put_in_turn x) (by_turn-last front r back h.1 k)
    ∙ put_before x (by_turn (front ++ back)) r h.0
