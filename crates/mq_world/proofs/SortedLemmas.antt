-- Lists in the order of a key: they are the same where they have the same elements.
use Rattle.std.proofs.Common.{◌≡◌, Bool, true, false, true≢false, cond, ◌&&◌, ◌||◌, List, [], ◌∷◌}
use Rattle.std.proofs.Common.{◌++◌, Option, Some, None, is_some, refl, sym, ◌∙◌, ap, subst}
use Rattle.std.specs.declared.cmp.Ordering.{Ordering}
use Rattle.std.specs.declared.cmp.Ordering.TheVariants.{Less, Equal, Greater}
use Rattle.std.specs.Ordering.{is_eq, ordering_reverse}
use Rattle.std.specs.Cmp.{IsTotalOrder, tied_itself}
use Rattle.std.specs.List.{filter, filter_map, cons_option, list_any, AllByRecursion}
use Rattle.std.specs.List.Sorted.{IsStrictlySortedBy}
use Rattle.std.proofs.lemmas.List.Kept.{IsStrictlySortedBy-filter}
use Rattle.mq_world.specs.Lists.{with_row, in_order}
use Rattle.mq_world.proofs.OrderLemmas.{all_append, all_weaker, sorted-with_row}
use Rattle.mq_world.proofs.BoolLemmas.{pick}
use Rattle.mq_world.proofs.ListLemmas.{any-append}
use Rattle.std.specs.Ordering.{is_lt}
use Rattle.std.proofs.Math.Bool.{and-false, or_comm}

-- only what gives something is kept
pub filter_map-some : {X Y : Type 0} (h : X → Option Y) (xs : List X)
    → filter_map h xs ≡ filter_map h (filter (λ x. is_some (h x)) xs)
filter_map-some h [] = refl
filter_map-some {X} {Y} h (x ∷ xs) =
    let rest : List X = filter (λ y. is_some (h y)) xs in
    let P : Option Y → Type 0 = λ o. h x ≡ o
    → cons_option o (filter_map h xs) ≡ filter_map h (cond (is_some o) (x ∷ rest) rest) in
    (elim (h x) as P [
      | None ↦ λ e. filter_map-some h xs
      | Some y ↦ λ e. ap (λ l. y ∷ l) (filter_map-some h xs)
          ∙ ap (λ o. cons_option o (filter_map h rest)) (sym e)
    ]) refl

module _ {X : Type 0} (cmp : X → X → Ordering) (o : IsTotalOrder cmp) where
  abbrev pub ties : X → X → Bool
  ties x y = is_eq (cmp x y)

  pub own-tie : (x : X) → ties x x ≡ true
  own-tie x = ap is_eq (tied_itself o x)

  pub sorted-append : (xs ys : List X) → IsStrictlySortedBy cmp xs → IsStrictlySortedBy cmp ys
      → AllByRecursion (λ x. AllByRecursion (λ y. cmp x y ≡ Less) ys) xs
      → IsStrictlySortedBy cmp (xs ++ ys)
  unfolding IsStrictlySortedBy
  sorted-append [] ys s t h = t
  sorted-append (x ∷ xs) ys s t h =
      (all_append (λ y. cmp x y ≡ Less) xs ys s.0 h.0, sorted-append xs ys s.1 t h.1)

  pub sorted-in_order : (xs : List X) → IsStrictlySortedBy cmp (in_order cmp xs)
  unfolding IsStrictlySortedBy
  sorted-in_order [] = tt
  sorted-in_order (x ∷ xs) = sorted-with_row cmp o x (in_order cmp xs) (sorted-in_order xs)

  module _ (tied : (x y : X) → is_eq (cmp x y) ≡ true → x ≡ y) where
    none_above : (z : X) (xs : List X) → AllByRecursion (λ y. cmp z y ≡ Less) xs
        → list_any (ties z) xs ≡ false
    none_above z [] h = refl
    none_above z (x ∷ xs) h = ap (λ r. is_eq r || list_any (ties z) xs) h.0 ∙ none_above z xs h.1

    below : (z x : X) (xs : List X) → cmp z x ≡ Less → AllByRecursion (λ y. cmp x y ≡ Less) xs
        → AllByRecursion (λ y. cmp z y ≡ Less) xs
    below z x xs e h = all_weaker (λ y. cmp x y ≡ Less) (λ y. cmp z y ≡ Less)
        (λ y k. o.trans z x y e k) xs h

    first_in : (x : X) (xs : List X) → list_any (ties x) (x ∷ xs) ≡ true
    first_in x xs = ap (λ b. b || list_any (ties x) xs) (own-tie x)

    pub same_sorted : (xs ys : List X) → IsStrictlySortedBy cmp xs → IsStrictlySortedBy cmp ys
        → ((z : X) → list_any (ties z) xs ≡ list_any (ties z) ys) → xs ≡ ys
    unfolding IsStrictlySortedBy
    same_sorted [] [] s t h = refl
    same_sorted [] (y ∷ ys) s t h = absurd (true≢false (sym (first_in y ys) ∙ sym (h y)))
    same_sorted (x ∷ xs) [] s t h = absurd (true≢false (sym (first_in x xs) ∙ h x))
    same_sorted (x ∷ xs) (y ∷ ys) s t h =
        let P : Ordering → Type 0 = λ r. cmp x y ≡ r → x ∷ xs ≡ y ∷ ys in
        (elim (cmp x y) as P [
          | Less ↦ λ r. absurd
              (true≢false (sym (first_in x xs) ∙ h x
              ∙ none_above x (y ∷ ys) (r, below x y ys r t.0)))
          | Equal ↦ λ r. (let same : x ≡ y = tied x y (ap is_eq r) in
              ap (λ z. z ∷ xs) same ∙ ap (λ l. y ∷ l)
              (same_sorted xs ys s.1 t.1 (λ z. tails same z)))
          | Greater ↦ λ r. (let less : cmp y x ≡ Less = o.antisymm y x ∙ ap ordering_reverse r in
              absurd (true≢false (sym (first_in y ys) ∙ sym (h y)
              ∙ none_above y (x ∷ xs) (less, below y x xs less s.0))))
        ]) refl
      where
        tails : x ≡ y → (z : X) → list_any (ties z) xs ≡ list_any (ties z) ys
        tails same z =
            pick (ties z x)
            (λ e. (let zx : z ≡ x = tied z x e in
            none_above z xs (subst (λ (w : X). AllByRecursion (λ v. cmp w v ≡ Less) xs) (sym zx)
            s.0)
            ∙ sym (none_above z ys (subst (λ (w : X). AllByRecursion (λ v. cmp w v ≡ Less) ys)
            (sym (zx ∙ same)) t.0))))
            (λ e. ap (λ b. b || list_any (ties z) xs) (sym e) ∙ h z
            ∙ ap (λ b. b || list_any (ties z) ys) (ap (ties z) (sym same) ∙ e))

    pub any-filter : (q : X → Bool) (z : X) (xs : List X)
        → list_any (ties z) (filter q xs) ≡ (list_any (ties z) xs && q z)
    any-filter q z [] = refl
    any-filter q z (x ∷ xs) =
        pick (ties z x)
        (λ e. (let zx : z ≡ x = tied z x e in
        pick (q x)
        (λ t. ap (λ b. list_any (ties z) (cond b (x ∷ filter q xs) (filter q xs))) t
        ∙ ap (λ b. b || list_any (ties z) (filter q xs)) e
        ∙ sym (ap (λ b. (b || list_any (ties z) xs) && q z) e ∙ ap q zx ∙ t))
        (λ f. ap (λ b. list_any (ties z) (cond b (x ∷ filter q xs) (filter q xs))) f
        ∙ any-filter q z xs
        ∙ ap (λ b. list_any (ties z) xs && b) (ap q zx ∙ f) ∙ and-false (list_any (ties z) xs)
        ∙ sym (ap (λ b. (b || list_any (ties z) xs) && q z) e ∙ ap q zx ∙ f))))
        (λ e. (elim (q x) as (λ b. list_any (ties z) (cond b (x ∷ filter q xs) (filter q xs))
        ≡ list_any (ties z) (filter q xs))
        [ true ↦ ap (λ b. b || list_any (ties z) (filter q xs)) e | false ↦ refl ])
        ∙ any-filter q z xs ∙ ap (λ b. (b || list_any (ties z) xs) && q z) (sym e))

    -- the same of those that pass
    pub same_filtered : (q : X → Bool) (xs ys : List X) → IsStrictlySortedBy cmp xs
        → IsStrictlySortedBy cmp ys
        → ((z : X) → q z ≡ true → list_any (ties z) xs ≡ list_any (ties z) ys)
        → filter q xs ≡ filter q ys
    same_filtered q xs ys s t h =
        same_sorted (filter q xs) (filter q ys) (IsStrictlySortedBy-filter cmp q xs s)
        (IsStrictlySortedBy-filter cmp q ys t)
        (λ z. any-filter q z xs
        ∙ pick (q z)
        (λ e. ap (λ b. b && q z) (h z e))
        (λ e. ap (λ b. list_any (ties z) xs && b) e ∙ and-false (list_any (ties z) xs)
        ∙ sym (ap (λ b. list_any (ties z) ys && b) e ∙ and-false (list_any (ties z) ys)))
        ∙ sym (any-filter q z ys))

    pub same_gathered : {Y : Type 0} (h : X → Option Y) (xs ys : List X) → IsStrictlySortedBy cmp xs
        → IsStrictlySortedBy cmp ys
        → ((z : X) → is_some (h z) ≡ true → list_any (ties z) xs ≡ list_any (ties z) ys)
        → filter_map h xs ≡ filter_map h ys
    same_gathered h xs ys s t e =
        filter_map-some h xs ∙ ap (filter_map h) (same_filtered (λ x. is_some (h x)) xs ys s t e)
        ∙ sym (filter_map-some h ys)

    -- a row among rows
    pub any-with_row : (z x : X) (xs : List X)
        → list_any (ties z) (with_row cmp x xs) ≡ (list_any (ties z) xs || ties z x)
    unfolding with_row
    any-with_row z x xs =
        any-append (ties z) (filter (λ w. is_lt (cmp w x)) xs)
        (x ∷ filter (λ w. is_lt (cmp x w)) xs)
        ∙ ap (λ b. b || (ties z x || list_any (ties z) (filter (λ w. is_lt (cmp x w)) xs)))
        (any-filter (λ w. is_lt (cmp w x)) z xs)
        ∙ ap (λ b. (list_any (ties z) xs && is_lt (cmp z x)) || (ties z x || b))
        (any-filter (λ w. is_lt (cmp x w)) z xs)
        ∙ ap (λ r. (list_any (ties z) xs && is_lt (cmp z x))
        || (ties z x || (list_any (ties z) xs && is_lt r))) (o.antisymm x z)
        ∙ cases (list_any (ties z) xs) (cmp z x)
      where
        cases : (a : Bool) (r : Ordering)
            → ((a && is_lt r) || (is_eq r || (a && is_lt (ordering_reverse r)))) ≡ (a || is_eq r)
        cases true Less = refl
        cases true Equal = refl
        cases true Greater = refl
        cases false Less = refl
        cases false Equal = refl
        cases false Greater = refl

    -- rows put in order
    pub any-in_order : (z : X) (xs : List X)
        → list_any (ties z) (in_order cmp xs) ≡ list_any (ties z) xs
    any-in_order z [] = refl
    any-in_order z (x ∷ xs) = any-with_row z x (in_order cmp xs)
        ∙ ap (λ b. b || ties z x) (any-in_order z xs) ∙ or_comm (list_any (ties z) xs) (ties z x)

    pub same_in_order : (xs ys : List X) → ((z : X) → list_any (ties z) xs ≡ list_any (ties z) ys)
        → in_order cmp xs ≡ in_order cmp ys
    same_in_order xs ys h = same_sorted (in_order cmp xs) (in_order cmp ys) (sorted-in_order xs)
        (sorted-in_order ys) (λ z. any-in_order z xs ∙ h z ∙ sym (any-in_order z ys))
