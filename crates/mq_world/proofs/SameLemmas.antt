-- Lists with the same elements, each as often, in any order.
use Rattle.std.proofs.Common.{◌≡◌, ℕ, suc, ◌+◌, ◌≤◌, ◌<◌, ◌==◌, Bool, true, false, cond, ◌&&◌, ◌||◌}
use Rattle.std.proofs.Common.{not, List, [], ◌∷◌, map, Option, Some, None, length, max, nat_le}
use Rattle.std.proofs.Common.{nat_lt, refl, sym, ◌∙◌, ap, subst, arith, ◌⊎◌, inl, inr}
use Rattle.std.specs.List.{filter, filter_map, cons_option, list_any}
use Rattle.std.specs.Option.{option_map_or}
use Rattle.std.specs.Cmp.{nat_eq_equiv}
use Rattle.std.proofs.Math.Bool.{and_comm}
use borrow.Author.Tests.{ltb-true, ltb-false, eqb-true, leb-true, leb-false}
use Rattle.mq_world.specs.Lists.{greatest, ascending, insert_number, SameElements}
use Rattle.mq_world.proofs.ListLemmas.{filter-same}

-- ## What filters, maps and tests say of such lists

-- two filters, one after the other, keep just what passes both tests
pub filter-filter : {X : Type 0} (p q : X → Bool) (xs : List X)
    → filter p (filter q xs) ≡ filter (λ x. q x && p x) xs
filter-filter p q [] = refl
filter-filter p q (x ∷ xs) =
    elim (q x) as (λ b. filter p (cond b (x ∷ filter q xs) (filter q xs))
    ≡ cond (b && p x) (x ∷ filter (λ y. q y && p y) xs) (filter (λ y. q y && p y) xs)) [
      | true ↦ ap (λ l. cond (p x) (x ∷ l) l) (filter-filter p q xs)
      | false ↦ filter-filter p q xs
    ]

-- lists with the same elements keep the same ones
pub SameElements-filter : {X : Type 0} (q : X → Bool) (xs ys : List X) → SameElements xs ys
    → SameElements (filter q xs) (filter q ys)
SameElements-filter q xs ys same =
    λ p. rw (filter-filter p q xs, filter-filter p q ys) (same (λ x. q x && p x))

length-filter-map : {X Y : Type 0} (f : X → Y) (p : Y → Bool) (xs : List X)
    → length (filter p (map f xs)) ≡ length (filter (λ x. p (f x)) xs)
length-filter-map f p [] = refl
length-filter-map f p (x ∷ xs) =
    elim (p (f x)) as (λ b. length (cond b (f x ∷ filter p (map f xs)) (filter p (map f xs)))
    ≡ length (cond b (x ∷ filter (λ y. p (f y)) xs) (filter (λ y. p (f y)) xs))) [
      | true ↦ ap (λ n. suc n) (length-filter-map f p xs)
      | false ↦ length-filter-map f p xs
    ]

-- lists with the same elements, both mapped, have the same elements again
pub SameElements-map : {X Y : Type 0} (f : X → Y) (xs ys : List X) → SameElements xs ys
    → SameElements (map f xs) (map f ys)
SameElements-map f xs ys same = λ p. rw (length-filter-map f p xs, length-filter-map f p ys)
    (same (λ x. p (f x)))

abbrev passes : {X Y : Type 0} → (X → Option Y) → (Y → Bool) → X → Bool
passes h p x = option_map_or p (h x) false

length-filter-filter_map : {X Y : Type 0} (h : X → Option Y) (p : Y → Bool) (xs : List X)
    → length (filter p (filter_map h xs)) ≡ length (filter (passes h p) xs)
length-filter-filter_map h p [] = refl
length-filter-filter_map h p (x ∷ xs) =
    elim (h x) as (λ o. length (filter p (cons_option o (filter_map h xs)))
    ≡ length (cond (option_map_or p o false) (x ∷ filter (passes h p) xs)
    (filter (passes h p) xs))) [
      | None ↦ length-filter-filter_map h p xs
      | Some y ↦ elim (p y)
          as (λ b. length (cond b (y ∷ filter p (filter_map h xs)) (filter p (filter_map h xs)))
          ≡ length (cond b (x ∷ filter (passes h p) xs) (filter (passes h p) xs))) [
            | true ↦ ap (λ n. suc n) (length-filter-filter_map h p xs)
            | false ↦ length-filter-filter_map h p xs
          ]
    ]

-- the same of `filter_map`: lists with the same elements give lists with the same elements
pub SameElements-filter_map : {X Y : Type 0} (h : X → Option Y) (xs ys : List X)
    → SameElements xs ys → SameElements (filter_map h xs) (filter_map h ys)
SameElements-filter_map h xs ys same =
    λ p. rw (length-filter-filter_map h p xs, length-filter-filter_map h p ys) (same (passes h p))

filter-all : {X : Type 0} (xs : List X) → filter (λ _. true) xs ≡ xs
filter-all [] = refl
filter-all (x ∷ xs) = ap (λ l. x ∷ l) (filter-all xs)

-- lists with the same elements are equally long
pub length-SameElements : {X : Type 0} (xs ys : List X) → SameElements xs ys → length xs ≡ length ys
length-SameElements xs ys same = ap length (sym (filter-all xs)) ∙ same (λ _. true)
    ∙ ap length (filter-all ys)

eqb-suc-zero : (n : ℕ) → (suc n == 0) ≡ false
eqb-suc-zero n =
    let P : Bool → Type 0 = λ b. (suc n == 0) ≡ b → b ≡ false in
    (elim (suc n == 0) as P [
      | true ↦ λ h. absurd (let e : suc n ≡ 0 = eqb-true _ _ h in omega arith)
      | false ↦ λ h. refl
    ]) refl

-- a number above 0 does not test as 0
pub some_pass : (n : ℕ) → true ≡ not (suc n == 0)
some_pass n = sym (ap not (eqb-suc-zero n))

any-is : {X : Type 0} (p : X → Bool) (xs : List X) → list_any p xs ≡ not (length (filter p xs) == 0)
any-is p [] = refl
any-is p (x ∷ xs) =
    elim (p x) as (λ b. (b || list_any p xs)
    ≡ not (length (cond b (x ∷ filter p xs) (filter p xs)) == 0)) [
      | true ↦ some_pass (length (filter p xs))
      | false ↦ any-is p xs
    ]

-- of lists with the same elements, both have an element that passes or neither has
pub list_any-SameElements : {X : Type 0} (p : X → Bool) (xs ys : List X) → SameElements xs ys
    → list_any p xs ≡ list_any p ys
list_any-SameElements p xs ys same = any-is p xs ∙ ap (λ n. not (n == 0)) (same p)
    ∙ sym (any-is p ys)

-- ## The greatest number

abbrev above : ℕ → List ℕ → ℕ
above g ns = length (filter (λ n. nat_lt g n) ns)

none_above : (g : ℕ) (ns : List ℕ) → greatest ns ≤ g → above g ns ≡ 0
none_above g [] h = refl
none_above g (n ∷ ns) h =
    let here : n ≤ g = omega arith in
    let rest : greatest ns ≤ g = omega arith in
    let P : Bool → Type 0 = λ b. nat_lt g n ≡ b
    → length (cond b (n ∷ filter (λ k. nat_lt g k) ns) (filter (λ k. nat_lt g k) ns)) ≡ 0 in
    (elim (nat_lt g n) as P [
      | true ↦ λ e. absurd (let past : g < n = ltb-true _ _ e in omega arith)
      | false ↦ λ e. none_above g ns rest
    ]) refl

bounded : (g : ℕ) (ns : List ℕ) → above g ns ≡ 0 → greatest ns ≤ g
bounded g [] h = omega arith
bounded g (n ∷ ns) h =
    let P : Bool → Type 0 = λ b. nat_lt g n ≡ b
    → length (cond b (n ∷ filter (λ k. nat_lt g k) ns) (filter (λ k. nat_lt g k) ns)) ≡ 0
    → max n (greatest ns) ≤ g in
    (elim (nat_lt g n) as P [
      | true ↦ λ e k. absurd (let no : suc (length (filter (λ k. nat_lt g k) ns)) ≡ 0 = k in
          omega arith)
      | false ↦ λ e k. (let here : n ≤ g = ltb-false _ _ e in let rest : greatest ns ≤ g =
          bounded g ns k in omega arith)
    ]) refl h

-- lists with the same elements have the same greatest number
pub greatest-SameElements : (ms ns : List ℕ) → SameElements ms ns → greatest ms ≡ greatest ns
greatest-SameElements ms ns same =
    let below : greatest ms ≤ greatest ns =
    bounded (greatest ns) ms (same (λ k. nat_lt (greatest ns) k)
    ∙ none_above (greatest ns) ns (omega arith)) in
    let under : greatest ns ≤ greatest ms =
    bounded (greatest ms) ns (sym (same (λ k. nat_lt (greatest ms) k))
    ∙ none_above (greatest ms) ms (omega arith)) in
    omega arith

-- ## Ascending numbers

-- the test shows the order: it holds and m is at most n, or it fails and n is less than m
pub le_cases : (m n : ℕ) → ((nat_le m n ≡ true) × (m ≤ n)) ⊎ ((nat_le m n ≡ false) × (n < m))
le_cases m n =
    let P : Bool → Type 0 = λ b. nat_le m n ≡ b → ((b ≡ true) × (m ≤ n))
    ⊎ ((b ≡ false) × (n < m)) in
    (elim (nat_le m n) as P [
      | true ↦ λ h. inl (refl, leb-true _ _ h)
      | false ↦ λ h. inr
          (refl, leb-false _ _ h)
    ]) refl

-- the test that m is at most n fails where n is less
pub not_le : (m n : ℕ) → n < m → nat_le m n ≡ false
not_le m n h = elim (le_cases m n) as (λ _. nat_le m n ≡ false)
    [ inl k ↦ absurd (omega arith) | inr k ↦ k.0 ]

insert-swap : (u v : ℕ) (l : List ℕ) → insert_number u (insert_number v l)
    ≡ insert_number v (insert_number u l)
insert-swap u v [] =
    elim (le_cases u v) as (λ _. insert_number u (v ∷ []) ≡ insert_number v (u ∷ [])) [
      | inl uv ↦ elim (le_cases v u) as (λ _. insert_number u (v ∷ []) ≡ insert_number v (u ∷ [])) [
        | inl vu ↦ (let e : u ≡ v = omega arith in rw e refl)
        | inr vu ↦ rw (uv.0, vu.0) refl
      ]
      | inr uv ↦ elim (le_cases v u) as (λ _. insert_number u (v ∷ []) ≡ insert_number v (u ∷ [])) [
        | inl vu ↦ rw (uv.0, vu.0) refl
        | inr vu ↦ absurd (omega arith)
      ]
    ]
insert-swap u v (m ∷ ms) =
    let G : Type 0 = insert_number u (insert_number v (m ∷ ms))
    ≡ insert_number v (insert_number u (m ∷ ms)) in
    elim (le_cases v m) as (λ _. insert_number u (insert_number v (m ∷ ms))
    ≡ insert_number v (insert_number u (m ∷ ms))) [
      | inl vm ↦ elim (le_cases u m) as (λ _. insert_number u (insert_number v (m ∷ ms))
          ≡ insert_number v (insert_number u (m ∷ ms))) [
            | inl um ↦ elim (le_cases u v) as (λ _. insert_number u (insert_number v (m ∷ ms))
                ≡ insert_number v (insert_number u (m ∷ ms))) [
                  | inl uv ↦ elim (le_cases v u) as (λ _. insert_number u (insert_number v (m ∷ ms))
                      ≡ insert_number v (insert_number u (m ∷ ms))) [
                        | inl vu ↦ (let e : u ≡ v = omega arith in
                            subst (λ (k : ℕ). insert_number k (insert_number v (m ∷ ms))
                            ≡ insert_number v (insert_number k (m ∷ ms))) (sym e) refl)
                        | inr vu ↦ rw (vm.0, um.0, uv.0, vu.0, vm.0) refl
                      ]
                  | inr uv ↦ elim (le_cases v u) as (λ _. insert_number u (insert_number v (m ∷ ms))
                      ≡ insert_number v (insert_number u (m ∷ ms))) [
                        | inl vu ↦ rw (vm.0, um.0, uv.0, vu.0) refl
                        | inr vu ↦ absurd (omega arith)
                      ]
                ]
            | inr um ↦ (let uv : nat_le u v ≡ false = not_le u v (omega arith) in
                simp (vm.0, um.0, uv))
          ]
      | inr vm ↦ elim (le_cases u m) as (λ _. insert_number u (insert_number v (m ∷ ms))
          ≡ insert_number v (insert_number u (m ∷ ms))) [
            | inl um ↦ (let vu : nat_le v u ≡ false = not_le v u (omega arith) in
                simp (vm.0, um.0, vu))
            | inr um ↦ simp (vm.0, um.0) (ap (λ l. m ∷ l) (insert-swap u v ms))
          ]
    ]

-- the list without the first n in it
abbrev without : ℕ → List ℕ → List ℕ
without n [] = []
without n (m ∷ ms) = cond (n == m) ms (m ∷ without n ms)

ascending-without : (n : ℕ) (ms : List ℕ) → list_any (λ m. n == m) ms ≡ true
    → ascending ms ≡ insert_number n (ascending (without n ms))
ascending-without n [] h = cc
ascending-without n (m ∷ ms) h =
    let P : Bool → Type 0 = λ b. (n == m) ≡ b → (b || list_any (λ k. n == k) ms) ≡ true
    → insert_number m (ascending ms) ≡ insert_number n
    (ascending (cond b ms (m ∷ without n ms))) in
    (elim (n == m) as P [
      | true ↦ λ e k. (let same : n ≡ m = eqb-true _ _ e in
          ap (λ v. insert_number v (ascending ms)) (sym same))
      | false ↦ λ e k. ap (insert_number m) (ascending-without n ms k)
          ∙ insert-swap m n (ascending (without n ms))
    ]) refl h

-- a filter keeps as many as of the rest, and one more where the first element passes
pub length-filter-cons : {X : Type 0} (p : X → Bool) (x : X) (xs : List X)
    → length (filter p (x ∷ xs)) ≡ cond (p x) 1 0 + length (filter p xs)
length-filter-cons p x xs =
    let k : ℕ = length (filter p xs) in
    elim (p x) as (λ b. length (cond b (x ∷ filter p xs) (filter p xs)) ≡ cond b 1 0
    + length (filter p xs)) [
      | true ↦ omega arith
      | false ↦ omega arith
    ]

taken : (i a b : ℕ) → i + a ≡ i + b → a ≡ b
taken i a b h = omega arith

arranged : (p : ℕ → Bool) (n m : ℕ) (ms ns : List ℕ)
    → length (filter p ms) ≡ length (filter p (n ∷ ns))
    → length (filter p (m ∷ ms)) ≡ length (filter p (n ∷ m ∷ ns))
arranged p n m ms ns h =
    let a : length (filter p (m ∷ ms)) ≡ cond (p m) 1 0 + length (filter p ms) =
    length-filter-cons p m ms in
    let b : length (filter p (n ∷ ns)) ≡ cond (p n) 1 0 + length (filter p ns) =
    length-filter-cons p n ns in
    let c : length (filter p (n ∷ m ∷ ns)) ≡ cond (p n) 1 0 + length (filter p (m ∷ ns)) =
    length-filter-cons p n (m ∷ ns) in
    let d : length (filter p (m ∷ ns)) ≡ cond (p m) 1 0 + length (filter p ns) =
    length-filter-cons p m ns in
    omega arith

cancelled : (p : ℕ → Bool) (m : ℕ) (ms ns : List ℕ)
    → length (filter p (m ∷ ms)) ≡ length (filter p (m ∷ ns))
    → length (filter p ms) ≡ length (filter p ns)
cancelled p m ms ns h = taken (cond (p m) 1 0) _ _
    (sym (length-filter-cons p m ms) ∙ h ∙ length-filter-cons p m ns)

length-filter-without : (p : ℕ → Bool) (n : ℕ) (ms : List ℕ) → list_any (λ m. n == m) ms ≡ true
    → length (filter p ms) ≡ length (filter p (n ∷ without n ms))
length-filter-without p n [] h = cc
length-filter-without p n (m ∷ ms) h =
    let P : Bool → Type 0 = λ b. (n == m) ≡ b → (b || list_any (λ k. n == k) ms) ≡ true
    → length (filter p (m ∷ ms)) ≡ length (filter p (n ∷ cond b ms (m ∷ without n ms))) in
    (elim (n == m) as P [
      | true ↦ λ e k. (let same : n ≡ m = eqb-true _ _ e in
          ap (λ v. length (filter p (v ∷ ms))) (sym same))
      | false ↦ λ e k. arranged p n m ms (without n ms) (length-filter-without p n ms k)
    ]) refl h

-- lists with the same elements are the same once sorted
pub ascending-SameElements : (ms ns : List ℕ) → SameElements ms ns → ascending ms ≡ ascending ns
ascending-SameElements [] [] same = refl
ascending-SameElements [] (n ∷ ns) same =
    absurd (let no : 0 ≡ suc (length ns) = length-SameElements [] (n ∷ ns) same in omega arith)
ascending-SameElements (m ∷ ms) ns same =
    let here : list_any (λ k. m == k) (m ∷ ms) ≡ true =
    ap (λ b. b || list_any (λ k. m == k) ms) (nat_eq_equiv.refl m) in
    let present : list_any (λ k. m == k) ns ≡ true =
    sym (list_any-SameElements (λ k. m == k) (m ∷ ms) ns same) ∙ here in
    let rest : SameElements ms (without m ns) =
    λ p. cancelled p m ms (without m ns) (same p ∙ length-filter-without p m ns present) in
    ap (insert_number m) (ascending-SameElements ms (without m ns) rest)
    ∙ sym (ascending-without m ns present)

-- two filters may change places
pub filter-swap : {X : Type 0} (p q : X → Bool) (xs : List X)
    → filter p (filter q xs) ≡ filter q (filter p xs)
filter-swap p q xs =
    filter-filter p q xs ∙ filter-same (λ x. q x && p x) (λ x. p x && q x)
    (λ x. and_comm (q x) (p x)) xs ∙ sym (filter-filter q p xs)
