-- The first of a list that passes a test.
use Rattle.std.proofs.Common.{◌≡◌, ◌<◌, ℕ, zero, suc, Bool, true, false, ◌&&◌, ◌||◌, cond}
use Rattle.std.proofs.Common.{List, [], ◌∷◌, ◌++◌, length, take, drop, get_or, Some, None}
use Rattle.std.proofs.Common.{All, refl, ap, arith}
use Rattle.std.specs.Prelude.{find, map}
use Rattle.std.specs.List.{filter, list_any}
use Rattle.std.proofs.lemmas.List.Elements.{All-head, All-tail, All-nil, All-cons}

-- ---- in lists that are filtered
-- where what passes the test passes the filter, the filter leaves it
pub any_filter : {X : Type 0} (p f t : X → Bool) (xs : List X)
    → All (λ x. p x ≡ true → f x ≡ true) xs
    → list_any (λ x. p x && t x) xs ≡ list_any p (filter (λ x. f x && t x) xs)
any_filter p f t [] h = refl
any_filter p f t (x ∷ xs) h =
    at (p x) (f x) (t x) refl (All-head (λ x. p x ≡ true → f x ≡ true) x xs h)
    (any_filter p f t xs (All-tail (λ x. p x ≡ true → f x ≡ true) x xs h))
  where
    at : (a b c : Bool) → p x ≡ a → (a ≡ true → b ≡ true)
        → list_any (λ x. p x && t x) xs ≡ list_any p (filter (λ x. f x && t x) xs)
        → ((a && c) || list_any (λ x. p x && t x) xs)
        ≡ list_any p (cond (b && c) (x ∷ filter (λ x. f x && t x) xs)
        (filter (λ x. f x && t x) xs))
    at true true true e g h = rw e refl
    at true true false e g h = h
    at true false c e g h = absurd (let q = g refl in cc)
    at false true true e g h = rw e h
    at false true false e g h = h
    at false false c e g h = h

pub find_filter : {X : Type 0} (p f t : X → Bool) (xs : List X)
    → All (λ x. p x ≡ true → f x ≡ true) xs
    → find (λ x. p x && t x) xs ≡ find p (filter (λ x. f x && t x) xs)
find_filter p f t [] h = refl
find_filter p f t (x ∷ xs) h =
    at (p x) (f x) (t x) refl (All-head (λ x. p x ≡ true → f x ≡ true) x xs h)
    (find_filter p f t xs (All-tail (λ x. p x ≡ true → f x ≡ true) x xs h))
  where
    at : (a b c : Bool) → p x ≡ a → (a ≡ true → b ≡ true)
        → find (λ x. p x && t x) xs ≡ find p (filter (λ x. f x && t x) xs)
        → cond (a && c) (Some x) (find (λ x. p x && t x) xs)
        ≡ find p (cond (b && c) (x ∷ filter (λ x. f x && t x) xs)
        (filter (λ x. f x && t x) xs))
    at true true true e g h = rw e refl
    at true true false e g h = h
    at true false c e g h = absurd (let q = g refl in cc)
    at false true true e g h = rw e h
    at false true false e g h = h
    at false false c e g h = h

-- ---- the first
-- none before it passes, and it does
pub find_behind : {X : Type 0} (p : X → Bool) (before : List X) (x : X) (after : List X)
    → list_any p before ≡ false → p x ≡ true → find p (before ++ (x ∷ after)) ≡ Some x
find_behind p [] x after n h = rw h refl
find_behind p (y ∷ ys) x after n h = at (p y) n (λ k. find_behind p ys x after k h)
  where
    at : (b : Bool) → (b || list_any p ys) ≡ false
        → (list_any p ys ≡ false → find p (ys ++ (x ∷ after)) ≡ Some x)
        → cond b (Some y) (find p (ys ++ (x ∷ after))) ≡ Some x
    at true n f = absurd (let q : true ≡ false = n in cc)
    at false n f = f n

pub find_none : {X : Type 0} (p : X → Bool) (xs : List X) → list_any p xs ≡ false
    → find p xs ≡ None
find_none p [] h = refl
find_none p (x ∷ xs) h = at (p x) h (find_none p xs)
  where
    at : (b : Bool) → (b || list_any p xs) ≡ false → (list_any p xs ≡ false → find p xs ≡ None)
        → cond b (Some x) (find p xs) ≡ None
    at true n f = absurd (let q : true ≡ false = n in cc)
    at false n f = f n

-- the place of the first that passes
pub record IsFirst {X : Type 0} (p : X → Bool) (xs : List X) : Type 0 where
  pub place : ℕ
  pub item : X
  pub in_range : place < length xs
  pub here : (d : X) → p (get_or xs place d) ≡ true
  pub before : list_any p (take place xs) ≡ false

pub first_place : {X : Type 0} (p : X → Bool) (xs : List X) → list_any p xs ≡ true → IsFirst p xs
first_place p [] h = absurd (let q : false ≡ true = h in cc)
first_place p (x ∷ xs) h = at (p x) refl (λ k. first_place p xs k) h
  where
    at : (b : Bool) → p x ≡ b → (list_any p xs ≡ true → IsFirst p xs)
        → (b || list_any p xs) ≡ true → IsFirst p (x ∷ xs)
    at true e f h = record {
      place = 0;
      item = x;
      in_range = omega arith;
      here = λ d. e;
      before = refl;
    }
    at false e f h =
        let later = f h in
        record {
          place = suc later.place;
          item = later.item;
          in_range = let low = later.in_range in omega arith;
          here = later.here;
          before = rw e later.before;
        }

-- ---- one of a list
-- a list in parts at a place
pub parts_at : {X : Type 0} (xs : List X) (i : ℕ) (d : X) → i < length xs
    → xs ≡ take i xs ++ (get_or xs i d ∷ drop (suc i) xs)
parts_at [] i d h = absurd (omega arith)
parts_at (x ∷ xs) zero d h = refl
parts_at (x ∷ xs) (suc i) d h = ap (λ l. x ∷ l) (parts_at xs i d (omega arith))

-- what all of a list have, the one that stands in it has
pub All-behind : {X : Type 0} (P : X → Type 0) (before : List X) (x : X) (after : List X)
    → All P (before ++ (x ∷ after)) → P x
All-behind P [] x after h = All-head P x after h
All-behind P (y ∷ ys) x after h = All-behind P ys x after (All-tail P y (ys ++ (x ∷ after)) h)

-- and those before it
pub All-before : {X : Type 0} (P : X → Type 0) (before after : List X) → All P (before ++ after)
    → All P before
All-before P [] after h = All-nil P
All-before P (y ∷ ys) after h =
    All-cons P y ys (All-head P y (ys ++ after) h)
    (All-before P ys after (All-tail P y (ys ++ after) h))

-- what all of a list that is mapped have
pub All-unmap : {X Y : Type 0} (P : Y → Type 0) (f : X → Y) (xs : List X) → All P (map f xs)
    → All (λ x. P (f x)) xs
All-unmap P f [] h = All-nil (λ x. P (f x))
All-unmap P f (x ∷ xs) h =
    All-cons (λ x. P (f x)) x xs (All-head P (f x) (map f xs) h)
    (All-unmap P f xs (All-tail P (f x) (map f xs) h))

-- none passes where one test is never passed
pub none_at : {X : Type 0} (p : X → Bool) (xs : List X) → list_any p xs ≡ false
    → All (λ x. p x ≡ false) xs
none_at p [] h = All-nil (λ x. p x ≡ false)
none_at p (x ∷ xs) h = at (p x) refl h (none_at p xs)
  where
    at : (b : Bool) → p x ≡ b → (b || list_any p xs) ≡ false
        → (list_any p xs ≡ false → All (λ y. p y ≡ false) xs) → All (λ y. p y ≡ false) (x ∷ xs)
    at true e h f = absurd (let q : true ≡ false = h in cc)
    at false e h f = All-cons (λ y. p y ≡ false) x xs e (f h)
