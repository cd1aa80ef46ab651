-- Texts in ascending order, equal ones repeated: a stable sort by a text, and the run of the first.
use Rattle.std.proofs.Common.{◌≡◌, ℕ, suc, ◌+◌, ◌-◌, ◌≤◌, ◌<◌, suc-le-suc, zero-le, Bool, true}
use Rattle.std.proofs.Common.{false, true≢false, not, ◌&&◌, List, [], ◌∷◌, ◌++◌, map, length}
use Rattle.std.proofs.Common.{get_or, refl, sym, ◌∙◌, ap, subst, arith, Less, is_eq, is_lt, filter}
use Rattle.std.proofs.Common.{flat_map, IsSortedBy}
use Rattle.std.specs.Ordering.{ordering_reverse}
use Rattle.std.specs.Cmp.Lexicographic.{nat_list_cmp_total}
use Rattle.std.specs.List.{list_any, AllByRecursion, AllAdjacentBelow, IsChunkByPrefix}
use Rattle.std.specs.List.Sorted.{IsStableBy, IsStrictlySortedBy}
use Rattle.std.proofs.lemmas.List.Sorted.{sorted_far, ranks_by}
use Rattle.std.proofs.Math.Bool.{or-false, or_self}
use Rattle.std.proofs.lemmas.Bool.{or_left, or_right, or_parts}
use Rattle.mq_world.specs.Lists.{Text, same_text, text_cmp, in_order}
use Rattle.mq_subscriptions.specs.Filters.{is_text}
use Rattle.mq_subscriptions.specs.Matches.{AreAscending}
use Rattle.mq_world.proofs.BoolLemmas.{pick}
use Rattle.mq_world.proofs.ListLemmas.{filter-same, any-append}
use Rattle.mq_world.proofs.OrderLemmas.{all_weaker, all-with_row, text_flip, same_text-is}
use Rattle.mq_world.proofs.OrderLemmas.{same_text-itself}
use Rattle.mq_world.proofs.SortedLemmas.{same_sorted, sorted-in_order, any-in_order}
use Rattle.mq_subscriptions.proofs.TextMaps.{is_text-is, key_text}
use Rattle.mq_subscriptions.proofs.Outcomes.{pick_order}

-- what is no less than a text, and another, is greater
greater : (s t : Text) → is_lt (text_cmp t s) ≡ false → same_text s t ≡ false → text_cmp s t ≡ Less
greater s t h n =
    pick_order (text_cmp s t) (λ e. e)
    (λ e. absurd (true≢false (sym (sym (is_text-is s t) ∙ ap is_eq e) ∙ n)))
    (λ e. absurd (true≢false
    (sym (ap is_lt (nat_list_cmp_total.antisymm t s ∙ ap ordering_reverse e)) ∙ h)))

-- and so is what is no less than a greater one
greater_far : (s t u : Text) → text_cmp s t ≡ Less → is_lt (text_cmp u t) ≡ false
    → text_cmp s u ≡ Less
greater_far s t u less h =
    pick_order (text_cmp t u) (λ e. nat_list_cmp_total.trans s t u less e)
    (λ e. rw (← key_text t u (ap is_eq e)) less)
    (λ e. absurd (true≢false
    (sym (ap is_lt (nat_list_cmp_total.antisymm u t ∙ ap ordering_reverse e)) ∙ h)))

all_far : (s t : Text) → text_cmp s t ≡ Less → (us : List Text)
    → AllByRecursion (λ u. is_lt (text_cmp u t) ≡ false) us
    → AllByRecursion (λ u. text_cmp s u ≡ Less) us
all_far s t less us h = all_weaker (λ u. is_lt (text_cmp u t) ≡ false) (λ u. text_cmp s u ≡ Less)
    (λ u. greater_far s t u less) us h

-- what is true of each text is true of each when they are put in order
pub all-in_order : (P : Text → Type 0) (ts : List Text) → AllByRecursion P ts
    → AllByRecursion P (in_order text_cmp ts)
all-in_order P [] h = tt
all-in_order P (t ∷ ts) h = all-with_row text_cmp nat_list_cmp_total P t (in_order text_cmp ts) h.0
    (all-in_order P ts h.1)

any-alike : (c z : Text) (t : Text) (ts : List Text) → AllByRecursion (λ u. u ≡ c) (t ∷ ts)
    → list_any (is_text z) (t ∷ ts) ≡ is_text z c
any-alike c z t [] h = rw h.0 (or-false (is_text z c))
any-alike c z t (u ∷ ts) h = rw (h.0, any-alike c z u ts h.1) (or_self (is_text z c))

-- the least text comes first, once
pub least-first : (c t : Text) (ts rest : List Text) → AllByRecursion (λ u. u ≡ c) (t ∷ ts)
    → AllByRecursion (λ u. text_cmp c u ≡ Less) rest
    → in_order text_cmp ((t ∷ ts) ++ rest) ≡ c ∷ in_order text_cmp rest
unfolding IsStrictlySortedBy
least-first c t ts rest own far =
    same_sorted text_cmp nat_list_cmp_total key_text (in_order text_cmp ((t ∷ ts) ++ rest))
    (c ∷ in_order text_cmp rest) (sorted-in_order text_cmp nat_list_cmp_total ((t ∷ ts) ++ rest)) (
      all-in_order (λ u. text_cmp c u ≡ Less) rest far,
      sorted-in_order text_cmp nat_list_cmp_total rest,
    )
    (λ z. rw (any-in_order text_cmp nat_list_cmp_total key_text z ((t ∷ ts) ++ rest))
    (rw (any-append (is_text z) (t ∷ ts) rest, any-alike c z t ts own)
    (rw (any-in_order text_cmp nat_list_cmp_total key_text z rest))))

-- ## What a sort by a text gives, and what a run of one text is

module _ {X : Type 0} (key : X → Text) where
  abbrev pub lt : X → X → Bool
  lt x y = is_lt (text_cmp (key x) (key y))

  above : (x : X) (xs : List X) → ((k : ℕ) → k < length xs → lt (get_or xs k x) x ≡ false)
      → AllByRecursion (λ u. is_lt (text_cmp u (key x)) ≡ false) (map key xs)
  above x [] h = tt
  above x (y ∷ ys) h = (h 0 (omega arith), above x ys (λ k p. h (suc k) (omega arith)))

  ascending_from : (xs : List X)
      → ((i j : ℕ) (d : X) → i ≤ j → j < length xs → lt (get_or xs j d) (get_or xs i d) ≡ false)
      → AreAscending (map key xs)
  ascending_from [] h = tt
  ascending_from (x ∷ xs) h = (
    above x xs (λ k p. h 0 (suc k) x (omega arith) (omega arith)),
    ascending_from xs (λ i j d p q. h (suc i) (suc j) d (omega arith) (omega arith)),
  )

  pub ascending-sorted : (xs : List X) → IsSortedBy lt xs → AreAscending (map key xs)
  ascending-sorted xs s = ascending_from xs (sorted_far lt (ranks_by nat_list_cmp_total key) xs s)

  abbrev pub same : X → X → Bool
  same x y = same_text (key x) (key y)

  -- the longest run of the first key: its keys are the same, and those behind it are greater
  run : (x : X) (own rest : List X)
      → AllAdjacentBelow (λ a b. same a b ≡ true) (x ∷ own ++ rest) (suc (length own))
      → (suc (length own) < length (x ∷ own ++ rest) → (d : X)
      → same (get_or (x ∷ own ++ rest) (length own) d)
      (get_or (x ∷ own ++ rest) (suc (length own)) d) ≡ false)
      → AreAscending (map key (x ∷ own ++ rest)) → AllByRecursion (λ u. u ≡ key x) (map key own)
      × AllByRecursion (λ u. text_cmp (key x) u ≡ Less) (map key rest)
  run x [] [] adjacent apart up = (tt, tt)
  run x [] (y ∷ rest) adjacent apart up =
      let less : text_cmp (key x) (key y) ≡ Less =
      greater (key x) (key y) up.0.0 (apart (suc-le-suc (suc-le-suc zero-le)) x) in
      (tt, (less, all_far (key x) (key y) less (map key rest) up.1.0))
  run x (y ∷ own) rest adjacent apart up =
      let one : key x ≡ key y = same_text-is (key x) (key y) (adjacent 0 x (omega arith)) in
      let next = run y own rest (λ k d p. (let one_more : suc (k + 1) ≡ suc k + 1 = omega arith in
      ap (λ n. same (get_or (y ∷ own ++ rest) k d) (get_or (x ∷ y ∷ own ++ rest) n d)) one_more
      ∙ adjacent (suc k) d (omega arith)))
      (λ p d. apart (suc-le-suc p) d) up.1 in
      let same_as = subst (λ (c : Text). AllByRecursion (λ u. u ≡ c) (map key own)) (sym one) next.0
      in
      let behind = subst (λ (c : Text). AllByRecursion (λ u. text_cmp c u ≡ Less) (map key rest))
      (sym one) next.1 in
      ((sym one, same_as), behind)

  pub first-run : (x : X) (own rest : List X)
      → IsChunkByPrefix same (x ∷ own ++ rest) (length (x ∷ own))
      → AreAscending (map key (x ∷ own ++ rest))
      → AllByRecursion (λ u. u ≡ key x) (map key (x ∷ own))
      × AllByRecursion (λ u. text_cmp (key x) u ≡ Less) (map key rest)
  first-run x own rest prefix up =
      let back : length (x ∷ own) - 1 ≡ length own = omega arith in
      let both = run x own rest prefix.0 (λ p d. ap (λ n. same (get_or (x ∷ own ++ rest) n d)
      (get_or (x ∷ own ++ rest) (suc (length own)) d)) (sym back) ∙ prefix.1 p d) up in
      ((refl, both.0), both.1)

  -- ### What a stable sort keeps

  -- an element with the key, or none of them
  with_key : {P : Type 0} (t : Text) (xs : List X) → ((x : X) → key x ≡ t → P)
      → (filter (λ x. same_text (key x) t) xs ≡ [] → P) → P
  with_key t [] f g = g refl
  with_key t (x ∷ xs) f g =
      pick (same_text (key x) t) (λ e. f x (same_text-is (key x) t e))
      (λ e. with_key t xs f (λ none. g (rw e none)))

  tie-same : (t u : Text) → same_text u t
      ≡ (not (is_lt (text_cmp t u)) && not (is_lt (text_cmp u t)))
  tie-same t u =
      rw (text_flip u t, ← is_text-is t u, nat_list_cmp_total.antisymm u t)
      (pick_order (text_cmp t u) (λ e. rw e) (λ e. rw e) (λ e. rw e))

  pub stable-kept : (xs ys : List X) → IsStableBy lt xs ys → (t : Text)
      → filter (λ x. same_text (key x) t) ys ≡ filter (λ x. same_text (key x) t) xs
  stable-kept xs ys stable t = with_key t ys by_one
      (λ none. with_key t xs by_one (λ none_too. none ∙ sym none_too))
    where
      by_one : (x : X) → key x ≡ t → filter (λ x. same_text (key x) t) ys
          ≡ filter (λ x. same_text (key x) t) xs
      by_one x e =
          let alike : (y : X) → same_text (key y) t ≡ (not (lt x y) && not (lt y x)) =
          λ y. ap (same_text (key y)) (sym e) ∙ tie-same (key x) (key y) in
          rw (filter-same (λ y. same_text (key y) t) (λ y. not (lt x y) && not (lt y x)) alike ys)
          (rw (filter-same (λ y. same_text (key y) t) (λ y. not (lt x y) && not (lt y x)) alike xs)
          (stable x))

  -- ### By each key

  abbrev of_key : List X → Text → List X
  of_key xs t = filter (λ x. same_text (key x) t) xs

  not_of : (x : X) (t : Text) (xs : List X) → text_cmp t (key x) ≡ Less
      → of_key (x ∷ xs) t ≡ of_key xs t
  not_of x t xs less = rw (text_flip (key x) t, ← is_text-is t (key x), less)

  none_of : (t : Text) (xs : List X) → AllByRecursion (λ u. text_cmp t u ≡ Less) (map key xs)
      → of_key xs t ≡ []
  none_of t [] h = refl
  none_of t (x ∷ xs) h = not_of x t xs h.0 ∙ none_of t xs h.1

  pub by_no_key : (ts : List Text) → flat_map (of_key []) ts ≡ []
  by_no_key [] = refl
  by_no_key (t ∷ ts) = by_no_key ts

  behind_first : (x : X) (xs : List X) (ts : List Text)
      → AllByRecursion (λ u. text_cmp (key x) u ≡ Less) ts
      → flat_map (of_key (x ∷ xs)) ts ≡ flat_map (of_key xs) ts
  behind_first x xs [] h = refl
  behind_first x xs (t ∷ ts) h = rw (← is_text-is (key x) t, h.0, behind_first x xs ts h.1)

  first_by_key : (x : X) (xs : List X) (ts : List Text)
      → AllByRecursion (λ u. is_lt (text_cmp u (key x)) ≡ false) (map key xs)
      → IsStrictlySortedBy text_cmp ts → list_any (is_text (key x)) ts ≡ true
      → flat_map (of_key (x ∷ xs)) ts ≡ x ∷ flat_map (of_key xs) ts
  unfolding IsStrictlySortedBy
  first_by_key x xs [] up s there = absurd (true≢false (sym there))
  first_by_key x xs (t ∷ ts) up s there =
      pick (is_text (key x) t) (λ e. rw (← is_text-is (key x) t, e)
      (rw (behind_first x xs ts (rw (← key_text (key x) t e) at s.0))))
      (λ f. (let later : list_any (is_text (key x)) ts ≡ true = rw f at there in
      let less : text_cmp t (key x) ≡ Less = below t (key x) ts s.0 later in
      rw (not_of x t xs less, none_of t xs (all_far t (key x) less (map key xs) up))
      (first_by_key x xs ts up s.1 later)))
    where
      below : (t c : Text) (us : List Text) → AllByRecursion (λ u. text_cmp t u ≡ Less) us
          → list_any (is_text c) us ≡ true → text_cmp t c ≡ Less
      below t c [] h k = absurd (true≢false (sym k))
      below t c (u ∷ us) h k =
          pick (is_text c u) (λ e. rw (key_text c u e) h.0) (λ f. below t c us h.1 (rw f at k))

  -- a list in order of its keys is what it has of each, one after the other
  by_each : (xs : List X) (ts : List Text) → AreAscending (map key xs)
      → IsStrictlySortedBy text_cmp ts
      → AllByRecursion (λ u. list_any (is_text u) ts ≡ true) (map key xs)
      → flat_map (of_key xs) ts ≡ xs
  by_each [] ts up s there = by_no_key ts
  by_each (x ∷ xs) ts up s there = first_by_key x xs ts up.0 s there.0
      ∙ ap (λ l. x ∷ l) (by_each xs ts up.1 s there.1)

  pub by_each_key : (xs : List X) → AreAscending (map key xs)
      → flat_map (of_key xs) (in_order text_cmp (map key xs)) ≡ xs
  by_each_key xs up =
      by_each xs (in_order text_cmp (map key xs)) up
      (sorted-in_order text_cmp nat_list_cmp_total (map key xs))
      (all_there (map key xs) (in_order text_cmp (map key xs))
      (λ u k. any-in_order text_cmp nat_list_cmp_total key_text u (map key xs) ∙ k))
    where
      all_there : (us ts : List Text)
          → ((u : Text) → list_any (is_text u) us ≡ true → list_any (is_text u) ts ≡ true)
          → AllByRecursion (λ u. list_any (is_text u) ts ≡ true) us
      all_there [] ts h = tt
      all_there (u ∷ us) ts h = (
        h u (or_left _ _ (is_text-is u u ∙ same_text-itself u)),
        all_there us ts (λ v k. h v (or_right _ _ k)),
      )

  pub none_there : (t : Text) (xs : List X) → list_any (is_text t) (map key xs) ≡ false
      → of_key xs t ≡ []
  none_there t [] h = refl
  none_there t (x ∷ xs) h =
      let parts = or_parts (is_text t (key x)) (list_any (is_text t) (map key xs)) h in
      rw (text_flip (key x) t, ← is_text-is t (key x), parts.0) (none_there t xs parts.1)
