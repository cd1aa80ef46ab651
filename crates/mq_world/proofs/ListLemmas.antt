-- Facts on lists that the definitions and the code need.
use Rattle.std.proofs.Common.{◌≡◌, Bool, true, false, cond, ◌||◌, ◌≤◌, length, not, List, [], ◌∷◌}
use Rattle.std.proofs.Common.{◌++◌, map, Option, Some, None, is_some, Result, Ok, Err}
use Rattle.std.proofs.Common.{arith, refl, sym, ◌∙◌, ap}
use Rattle.std.proofs.lemmas.List.Filters.{length-filter_both}
use Rattle.std.specs.declared.cmp.Ordering.{Ordering}
use Rattle.std.specs.declared.cmp.Ordering.TheVariants.{Less, Equal, Greater}
use Rattle.std.specs.Ordering.{is_lt, match_ordering}
use Rattle.std.specs.Cmp.{IsTotalOrder}
use Rattle.std.specs.Result.{OnErr}
use Rattle.std.specs.List.{find, filter, list_any, filter_map, cons_option, AllByRecursion}
use Rattle.std.specs.List.Sorted.{IsStrictlySortedBy}
use Rattle.std.specs.Map.{lookup, remove_entry, keys_of}
use Rattle.std.specs.Set.{remove_key}
use Rattle.std.specs.BTreeMap.{insert_entry}
use Rattle.std.proofs.Math.Bool.{or_assoc}
use Rattle.mq_world.specs.Lists.{with_row}

-- to keep the elements whose images pass and then map is to map all and then filter
pub map-filter : {X Y : Type 0} (f : X → Y) (p : Y → Bool) (xs : List X)
    → map f (filter (λ x. p (f x)) xs) ≡ filter p (map f xs)
map-filter f p [] = refl
map-filter f p (x ∷ xs) =
    elim (p (f x)) as (λ b. map f (cond b (x ∷ filter (λ x. p (f x)) xs) (filter (λ x. p (f x)) xs))
    ≡ cond b (f x ∷ filter p (map f xs)) (filter p (map f xs))) [
      | true ↦ ap (λ l. f x ∷ l) (map-filter f p xs)
      | false ↦ map-filter f p xs
    ]

-- a look-up finds something just where some key passes
pub is_some-lookup : {K X : Type 0} (test : K → Bool) (es : List (K × X))
    → is_some (lookup test es) ≡ list_any (λ e. test e.0) es
is_some-lookup test [] = refl
is_some-lookup test (e ∷ es) =
    elim (test e.0) as (λ b. is_some (cond b (Some e.1) (lookup test es))
    ≡ (b || list_any (λ e. test e.0) es)) [
      | true ↦ refl
      | false ↦ is_some-lookup test es
    ]

-- an element of a mapped list passes just where some element of the list has an image that passes
pub list_any-map : {X Y : Type 0} (f : X → Y) (p : Y → Bool) (xs : List X)
    → list_any p (map f xs) ≡ list_any (λ x. p (f x)) xs
list_any-map f p [] = refl
list_any-map f p (x ∷ xs) = ap (λ b. p (f x) || b) (list_any-map f p xs)

-- tests that always agree say the same of whether any element passes
pub list_any-same : {X : Type 0} (p q : X → Bool) → ((x : X) → p x ≡ q x) → (xs : List X)
    → list_any p xs ≡ list_any q xs
list_any-same p q h [] = refl
list_any-same p q h (x ∷ xs) = rw (h x) (ap (λ b. q x || b) (list_any-same p q h xs))

-- a search finds something just where some element passes
pub is_some-find : {X : Type 0} (p : X → Bool) (xs : List X) → is_some (find p xs) ≡ list_any p xs
is_some-find p [] = refl
is_some-find p (x ∷ xs) =
    elim (p x) as (λ b. is_some (cond b (Some x) (find p xs)) ≡ (b || list_any p xs))
    [ true ↦ refl | false ↦ is_some-find p xs ]

-- some element of a joined list passes just where one of the first list or of the second does
pub any-append : {X : Type 0} (p : X → Bool) (xs ys : List X)
    → list_any p (xs ++ ys) ≡ (list_any p xs || list_any p ys)
any-append p [] ys = refl
any-append p (x ∷ xs) ys = ap (λ b. p x || b) (any-append p xs ys)
    ∙ sym (or_assoc (p x) (list_any p xs) (list_any p ys))

-- tests that always agree keep the same elements
pub filter-same : {X : Type 0} (p q : X → Bool) → ((x : X) → p x ≡ q x) → (xs : List X)
    → filter p xs ≡ filter q xs
filter-same p q h [] = refl
filter-same p q h (x ∷ xs) = rw (h x, filter-same p q h xs) refl

-- ## One row among rows in order

-- what holds in any case holds where a result is an error
pub on_err : {X E : Type 0} {P : Type 0} (r : Result X E) → P → OnErr r P
on_err (Ok x) p = tt
on_err (Err e) p = p

module _ {K X C : Type 0} (cmp : K → K → Ordering) (o : IsTotalOrder cmp) (view : K × X → C)
    (view_cmp : C → C → Ordering) (Stands : K × X → Type 0)
    (agrees : (e d : K × X) → Stands e → Stands d → view_cmp (view e) (view d) ≡ cmp e.0 d.0) where
  none_before : (k : K) (v : X) (es : List (K × X)) → Stands (k, v) → AllByRecursion Stands es
      → AllByRecursion (λ y. cmp k y ≡ Less) (keys_of es)
      → filter (λ other. is_lt (view_cmp other (view (k, v)))) (map view es) ≡ []
  none_before k v [] p ps h = refl
  none_before k v (e ∷ es) p ps h =
      let here : is_lt (view_cmp (view e) (view (k, v))) ≡ false =
      rw (agrees e (k, v) ps.0 p, o.antisymm e.0 k, h.0) refl in
      rw here (none_before k v es p ps.1 h.1)

  all_after : (k : K) (v : X) (es : List (K × X)) → Stands (k, v) → AllByRecursion Stands es
      → AllByRecursion (λ y. cmp k y ≡ Less) (keys_of es)
      → filter (λ other. is_lt (view_cmp (view (k, v)) other)) (map view es) ≡ map view es
  all_after k v [] p ps h = refl
  all_after k v (e ∷ es) p ps h =
      let here : is_lt (view_cmp (view (k, v)) (view e)) ≡ true =
      rw (agrees (k, v) e p ps.0, h.0) refl in
      rw (here, all_after k v es p ps.1 h.1) refl

  still_below : (k e : K) (es : List (K × X)) → cmp k e ≡ Less
      → AllByRecursion (λ y. cmp e y ≡ Less) (keys_of es)
      → AllByRecursion (λ y. cmp k y ≡ Less) (keys_of es)
  still_below k e [] h hs = tt
  still_below k e (d ∷ es) h hs = (o.trans k e d.0 h hs.0, still_below k e es h hs.1)

  also_below : (k e : K) (es : List (K × X)) → cmp k e ≡ Equal
      → AllByRecursion (λ y. cmp e y ≡ Less) (keys_of es)
      → AllByRecursion (λ y. cmp k y ≡ Less) (keys_of es)
  also_below k e [] h hs = tt
  also_below k e (d ∷ es) h hs = (o.congr k e d.0 h ∙ hs.0, also_below k e es h hs.1)

  pub map-insert_entry_among : (same : (k e : K) (v : X) → cmp k e ≡ Equal
      → view (e, v) ≡ view (k, v)) (k : K) (v : X) (es : List (K × X)) → Stands (k, v)
      → AllByRecursion Stands es → IsStrictlySortedBy cmp (keys_of es)
      → map view (insert_entry cmp es k v) ≡ with_row view_cmp (view (k, v)) (map view es)
  unfolding IsStrictlySortedBy with_row
  map-insert_entry_among same k v [] p ps s = refl
  map-insert_entry_among same k v (e ∷ es) p ps s =
      let P : Ordering → Type 0 = λ r. cmp k e.0 ≡ r
      → map view (match_ordering r ((k, v) ∷ e ∷ es) ((e.0, v) ∷ es)
      (e ∷ insert_entry cmp es k v)) ≡ filter (λ other. is_lt (view_cmp other (view (k, v))))
      (view e ∷ map view es) ++ view (k, v) ∷ filter
      (λ other. is_lt (view_cmp (view (k, v)) other)) (view e ∷ map view es) in
      let less : P Less = λ h.
      let below : AllByRecursion (λ y. cmp k y ≡ Less) (keys_of (e ∷ es)) =
      (h, still_below k e.0 es h s.0) in
      rw (none_before k v (e ∷ es) p ps below, all_after k v (e ∷ es) p ps below) refl in
      let equal : P Equal = λ h.
      let below : AllByRecursion (λ y. cmp k y ≡ Less) (keys_of es) = also_below k e.0 es h s.0 in
      let not_before : is_lt (view_cmp (view e) (view (k, v))) ≡ false =
      rw (agrees e (k, v) ps.0 p, o.antisymm e.0 k, h) refl in
      let not_after : is_lt (view_cmp (view (k, v)) (view e)) ≡ false =
      rw (agrees (k, v) e p ps.0, h) refl in
      rw (
        not_before,
        not_after,
        none_before k v es p ps.1 below,
        all_after k v es p ps.1 below,
        same k e.0 v h,
      ) refl in
      let greater : P Greater = λ h.
      let before : is_lt (view_cmp (view e) (view (k, v))) ≡ true =
      rw (agrees e (k, v) ps.0 p, o.antisymm e.0 k, h) refl in
      let not_after : is_lt (view_cmp (view (k, v)) (view e)) ≡ false =
      rw (agrees (k, v) e p ps.0, h) refl in
      rw (before, not_after) (ap (λ l. view e ∷ l) (map-insert_entry_among same k v es p ps.1 s.1))
      in
      (elim (cmp k e.0) as P [ Less ↦ less | Equal ↦ equal | Greater ↦ greater ]) refl

any_stand : {X : Type 0} (xs : List X) → AllByRecursion (λ _. Unit {0}) xs
any_stand [] = tt
any_stand (x ∷ xs) = (tt, any_stand xs)

-- to put an entry among sorted ones is to put its row among their rows, where the rows are ordered
-- as the keys are, and keys that tie show the same row
pub map-insert_entry : {K X C : Type 0} (cmp : K → K → Ordering) (o : IsTotalOrder cmp)
    (view : K × X → C) (view_cmp : C → C → Ordering)
    (agrees : (e d : K × X) → view_cmp (view e) (view d) ≡ cmp e.0 d.0)
    (same : (k e : K) (v : X) → cmp k e ≡ Equal → view (e, v) ≡ view (k, v)) (k : K) (v : X)
    (es : List (K × X)) → IsStrictlySortedBy cmp (keys_of es)
    → map view (insert_entry cmp es k v) ≡ with_row view_cmp (view (k, v)) (map view es)
map-insert_entry cmp o view view_cmp agrees same k v es s =
    map-insert_entry_among cmp o view view_cmp (λ _. Unit {0}) (λ e d p q. agrees e d) same k v es
    tt (any_stand es) s

-- ## Entries that are removed

-- where no key passes the test, all entries stay
pub all_stay : {K X : Type 0} (test : K → Bool) (es : List (K × X))
    → AllByRecursion (λ y. test y ≡ false) (keys_of es) → filter (λ e. not (test e.0)) es ≡ es
all_stay test [] h = refl
all_stay test (e ∷ es) h = rw (h.0, all_stay test es h.1) refl

-- where no key passes after one that does, all keys after such a key k fail the test
pub none_again : {K X : Type 0} (cmp : K → K → Ordering) (test : K → Bool)
    (apart : (x y : K) → test x ≡ true → cmp x y ≡ Less → test y ≡ false) (k : K) → test k ≡ true
    → (es : List (K × X)) → AllByRecursion (λ y. cmp k y ≡ Less) (keys_of es)
    → AllByRecursion (λ y. test y ≡ false) (keys_of es)
none_again cmp test apart k t [] h = tt
none_again cmp test apart k t (e ∷ es) h = (apart k e.0 t h.0, none_again cmp test apart k t es h.1)

-- to remove an entry of sorted keys is to keep those that fail the test
pub remove_entry-filter : {K X : Type 0} (cmp : K → K → Ordering) (test : K → Bool)
    (apart : (x y : K) → test x ≡ true → cmp x y ≡ Less → test y ≡ false) (es : List (K × X))
    → IsStrictlySortedBy cmp (keys_of es) → remove_entry test es ≡ filter (λ e. not (test e.0)) es
unfolding IsStrictlySortedBy
remove_entry-filter cmp test apart [] s = refl
remove_entry-filter cmp test apart (e ∷ es) s =
    let P : Bool → Type 0 = λ b. test e.0 ≡ b
    → cond b es (e ∷ remove_entry test es) ≡ cond (not b) (e ∷ filter (λ d. not (test d.0)) es)
    (filter (λ d. not (test d.0)) es) in
    (elim (test e.0) as P [
      | true ↦ λ h. sym (all_stay test es (none_again cmp test apart e.0 h es s.0))
      | false ↦ λ h. ap (λ l. e ∷ l) (remove_entry-filter cmp test apart es s.1)
    ]) refl

keys_again : {K : Type 0} (cmp : K → K → Ordering) (test : K → Bool)
    (apart : (x y : K) → test x ≡ true → cmp x y ≡ Less → test y ≡ false) (k : K) → test k ≡ true
    → (ks : List K) → AllByRecursion (λ y. cmp k y ≡ Less) ks
    → AllByRecursion (λ y. test y ≡ false) ks
keys_again cmp test apart k t [] h = tt
keys_again cmp test apart k t (x ∷ xs) h = (apart k x t h.0, keys_again cmp test apart k t xs h.1)

-- where no element passes, all are kept
pub filter-kept : {X : Type 0} (p : X → Bool) (xs : List X) → AllByRecursion (λ x. p x ≡ false) xs
    → filter (λ x. not (p x)) xs ≡ xs
filter-kept p [] h = refl
filter-kept p (x ∷ xs) h =
    ap (λ b. cond (not b) (x ∷ filter (λ y. not (p y)) xs) (filter (λ y. not (p y)) xs)) h.0
    ∙ ap (λ l. x ∷ l) (filter-kept p xs h.1)

-- the same of a set
pub remove_key-filter : {K : Type 0} (cmp : K → K → Ordering) (test : K → Bool)
    (apart : (x y : K) → test x ≡ true → cmp x y ≡ Less → test y ≡ false) (ks : List K)
    → IsStrictlySortedBy cmp ks → remove_key test ks ≡ filter (λ k. not (test k)) ks
unfolding IsStrictlySortedBy
remove_key-filter cmp test apart [] s = refl
remove_key-filter cmp test apart (k ∷ ks) s =
    let P : Bool → Type 0 = λ b. test k ≡ b → cond b ks (k ∷ remove_key test ks)
    ≡ cond (not b) (k ∷ filter (λ x. not (test x)) ks) (filter (λ x. not (test x)) ks) in
    (elim (test k) as P [
      | true ↦ λ h. sym (filter-kept test ks (keys_again cmp test apart k h ks s.0))
      | false ↦ λ h. ap (λ l. k ∷ l) (remove_key-filter cmp test apart ks s.1)
    ]) refl

-- `filter_map` of a mapped list is `filter_map` of the list with both functions in turn
pub filter_map-map : {X Y Z : Type 0} (f : Y → Option Z) (g : X → Y) (xs : List X)
    → filter_map f (map g xs) ≡ filter_map (λ x. f (g x)) xs
filter_map-map f g [] = refl
filter_map-map f g (x ∷ xs) = ap (cons_option (f (g x))) (filter_map-map f g xs)

-- functions that always agree map a list to the same list
pub map-same : {X Y : Type 0} (f g : X → Y) → ((x : X) → f x ≡ g x) → (xs : List X)
    → map f xs ≡ map g xs
map-same f g h [] = refl
map-same f g h (x ∷ xs) = rw (h x, map-same f g h xs) refl

-- functions that always agree give the same list by `filter_map`
pub filter_map-same : {X Y : Type 0} (f g : X → Option Y) → ((x : X) → f x ≡ g x) → (xs : List X)
    → filter_map f xs ≡ filter_map g xs
filter_map-same f g h [] = refl
filter_map-same f g h (x ∷ xs) = rw (h x, filter_map-same f g h xs) refl

-- to give nothing for an element that fails the test is to filter it out first
pub filter_map-filter : {X Y : Type 0} (f : X → Option Y) (p : X → Bool) (xs : List X)
    → filter_map (λ x. cond (p x) (f x) None) xs ≡ filter_map f (filter p xs)
filter_map-filter f p [] = refl
filter_map-filter f p (x ∷ xs) =
    elim (p x) as (λ b. cons_option (cond b (f x) None) (filter_map (λ x. cond (p x) (f x) None) xs)
    ≡ filter_map f (cond b (x ∷ filter p xs) (filter p xs))) [
      | true ↦ ap (cons_option (f x)) (filter_map-filter f p xs)
      | false ↦ filter_map-filter f p xs
    ]

-- ## What a loop has collected, and what it will of the rest

-- where each element fails, the filter keeps none
pub filter-none : {X : Type 0} (p : X → Bool) (xs : List X) → AllByRecursion (λ x. p x ≡ false) xs
    → filter p xs ≡ []
filter-none p [] h = refl
filter-none p (x ∷ xs) h = ap (λ b. cond b (x ∷ filter p xs) (filter p xs)) h.0
    ∙ filter-none p xs h.1

-- where each element fails, none passes
pub any-none : {X : Type 0} (p : X → Bool) (xs : List X) → AllByRecursion (λ x. p x ≡ false) xs
    → list_any p xs ≡ false
any-none p [] h = refl
any-none p (x ∷ xs) h = ap (λ b. b || list_any p xs) h.0 ∙ any-none p xs h.1

-- a filter keeps at most all elements
pub length-filter-most : {X : Type 0} (p : X → Bool) (xs : List X)
    → length (filter p xs) ≤ length xs
length-filter-most p xs = omega (arith, length-filter_both p (λ x. not (p x)) (λ x. refl) xs)

-- where the test of all says no, each element fails
pub none-any : {X : Type 0} (p : X → Bool) (xs : List X) → list_any p xs ≡ false
    → AllByRecursion (λ x. p x ≡ false) xs
none-any p [] h = tt
none-any p (x ∷ xs) h =
    let P : Bool → Type 0 = λ b. p x ≡ b → (b || list_any p xs) ≡ false
    → AllByRecursion (λ y. p y ≡ false) (x ∷ xs) in
    (elim (p x) as P [
      | true ↦ λ e k. (let no : true ≡ false = k in cc)
      | false ↦ λ e k. (e, none-any p xs k)
    ]) refl h
