-- Members that go last, and one row of a group that is stamped anew.
use Rattle.std.proofs.Common.{◌≡◌, ℕ, ◌<◌, arith, Bool, true, false, true≢false, not, List, [], ◌∷◌}
use Rattle.std.proofs.Common.{◌++◌, map, Some, if◌then◌else◌, refl, sym, ◌∙◌, ap, Less, is_eq}
use Rattle.std.proofs.Common.{filter, find, append-nil}
use Rattle.std.specs.Ordering.{ordering_reverse}
use Rattle.std.specs.List.{AllByRecursion}
use Rattle.std.specs.List.Sorted.{IsStrictlySortedBy}
use Rattle.std.proofs.lemmas.Bool.{false_from_ne_true}
use Rattle.std.proofs.lemmas.List.{map-append}
use Rattle.std.proofs.lemmas.List.Elements.{filter-append}
use Rattle.std.proofs.lemmas.List.Filters.{length-filter_both}
use Rattle.mq_world.specs.Lists.{SameElements}
use Rattle.mq_world.specs.World.{Group, Subscription, Row, row_cmp, is_in_group, same_key}
use Rattle.mq_world.specs.Turns.{by_turn}
use Rattle.mq_subscriptions.specs.Turns.{put_last, all_turned}
use Rattle.mq_world.proofs.BoolLemmas.{pick}
use Rattle.mq_world.proofs.OrderLemmas.{subscription_total, tied_is, length-filter-append}
use Rattle.mq_world.proofs.OrderLemmas.{all_weaker, all_passed}
use Rattle.mq_subscriptions.proofs.InTurn.{in_group_same, map-put_last, own_key_is}
use Rattle.mq_world.proofs.SameLemmas.{filter-swap}
use Rattle.mq_world.proofs.ListLemmas.{filter-none, filter-kept}
use Rattle.mq_subscriptions.proofs.Cuts.{all_parts}
use Rattle.mq_world.proofs.Splits.{some_same, none_some}
use Rattle.mq_subscriptions.proofs.TurnLemmas.{StampsBelow, by_turn-filter, by_turn-last}
use Rattle.mq_subscriptions.proofs.JoinTurn.{AreApart, apart-insert, apart-filter}

abbrev pub shown : List Row → List Subscription
shown rows = map (λ (r : Row). r.subscription) rows

-- ## Subscriptions that go last

put_last-elements : (q : Subscription → Bool) (xs : List Subscription)
    → SameElements (put_last q xs) xs
put_last-elements q xs = λ p.
    rw (length-filter-append p (filter (λ x. not (q x)) xs) (filter q xs))
    (rw (filter-swap p (λ x. not (q x)) xs, filter-swap p q xs)
    (omega (arith, length-filter_both q (λ x. not (q x)) (λ x. refl) (filter p xs))))

-- when some subscriptions go last, the elements stay the same
pub turned-elements : (ss xs : List Subscription) → SameElements (all_turned ss xs) xs
turned-elements [] xs = λ p. refl
turned-elements (s ∷ ss) xs = λ p. turned-elements ss (put_last (same_key s) xs) p
    ∙ put_last-elements (same_key s) xs p

-- none in another group has the key
other_keys : (s : Subscription) (g : Group) → is_in_group g s ≡ false → (xs : List Subscription)
    → AllByRecursion (λ x. same_key s x ≡ false) (filter (is_in_group g) xs)
other_keys s g n xs =
    all_weaker (λ (x : Subscription). is_in_group g x ≡ true) (λ x. same_key s x ≡ false)
    (λ x e. false_from_ne_true _ (λ t. true≢false (sym e ∙ in_group_same s x g t ∙ n)))
    (filter (is_in_group g) xs) (all_passed (is_in_group g) xs)

put_last-filter : (p q : Subscription → Bool) (xs : List Subscription)
    → filter p (put_last q xs) ≡ put_last q (filter p xs)
put_last-filter p q xs =
    rw (filter-append p (filter (λ x. not (q x)) xs) (filter q xs))
    (rw (filter-swap p (λ x. not (q x)) xs, filter-swap p q xs))

put_last-none : (q : Subscription → Bool) (xs : List Subscription)
    → AllByRecursion (λ x. q x ≡ false) xs → put_last q xs ≡ xs
put_last-none q xs h = rw (filter-kept q xs h, filter-none q xs h) (append-nil xs)

-- in one group only its own members move
pub turned-group : (g : Group) (ss xs : List Subscription)
    → filter (is_in_group g) (all_turned ss xs)
    ≡ all_turned (filter (is_in_group g) ss) (filter (is_in_group g) xs)
turned-group g [] xs = refl
turned-group g (s ∷ ss) xs =
    rw (turned-group g ss (put_last (same_key s) xs))
    (rw (put_last-filter (is_in_group g) (same_key s) xs)
    (pick (is_in_group g s) (λ t. rw t) (λ n. rw (n)
    (rw (put_last-none (same_key s) (filter (is_in_group g) xs) (other_keys s g n xs))))))

-- ## One row that is served

-- the list, cut at an element
pub record Among {X : Type 0} (x : X) (xs : List X) : Type 0 where
  pub front : List X
  pub back : List X
  pub is : xs ≡ front ++ x ∷ back

-- what is found among the filtered elements of a list is among the list's
pub found_among : {X : Type 0} (p q : X → Bool) (xs : List X) (x : X)
    → find p (filter q xs) ≡ Some x → Among x xs
found_among p q [] x h = absurd (none_some h)
found_among p q (y ∷ xs) x h =
    let later : find p (filter q xs) ≡ Some x → Among x (y ∷ xs) = λ k.
    let rest : Among x xs = found_among p q xs x k in
    record { front = y ∷ rest.front; back = rest.back; is = ap (λ l. y ∷ l) rest.is } in
    pick (q y) (λ t. pick (p y) (λ u. record {
      front = [];
      back = xs;
      is =
          ap (λ z. z ∷ xs) (some_same (rw (t, u) at h));
    }) (λ n. later (rw (t, n) at h)))
    (λ n. later (rw n at h))

-- what is true of each element is true of the one that is found
pub found_passes : {X : Type 0} (P : X → Type 0) (p : X → Bool) (xs : List X) (x : X)
    → find p xs ≡ Some x → AllByRecursion P xs → P x
found_passes P p [] x h a = absurd (none_some h)
found_passes P p (y ∷ xs) x h a =
    pick (p y) (λ t. rw (← some_same (rw t at h)) a.0) (λ n. found_passes P p xs x (rw n at h) a.1)

abbrev pub alike : Row → Row → Bool
alike r o = same_key r.subscription o.subscription

-- around a row in a list in order, no row has its key
cut_apart : (front : List Row) (r : Row) (back : List Row)
    → IsStrictlySortedBy row_cmp (front ++ r ∷ back)
    → AllByRecursion (λ o. alike r o ≡ false) front × AllByRecursion (λ o. alike r o ≡ false) back
unfolding IsStrictlySortedBy
cut_apart [] r back s =
    let behind = all_weaker (λ (o : Row). row_cmp r o ≡ Less) (λ o. alike r o ≡ false)
    (λ o k. sym (tied_is o.subscription r.subscription)
    ∙ ap is_eq (subscription_total.antisymm o.subscription r.subscription
    ∙ ap ordering_reverse k)) back s.0 in
    (tt, behind)
cut_apart (o ∷ front) r back s =
    let rest = cut_apart front r back s.1 in
    let less = (all_parts (λ (y : Row). row_cmp o y ≡ Less) front (r ∷ back) s.0).1.0 in
    ((sym (tied_is o.subscription r.subscription) ∙ ap is_eq less, rest.0), rest.1)

abbrev pub stamped : ℕ → Row → Row
stamped n r = record r { stamp = n }

none_stamped : (p : Row → Bool) (n : ℕ) (rows : List Row) → AllByRecursion (λ o. p o ≡ false) rows
    → map (λ o. if p o then stamped n o else o) rows ≡ rows
none_stamped p n [] h = refl
none_stamped p n (o ∷ rows) h = rw (h.0, none_stamped p n rows h.1)

-- the row is stamped anew, the others stay
module _ (n : ℕ) (rows : List Row) (sorted : IsStrictlySortedBy row_cmp rows)
    (below : StampsBelow n rows) (r : Row) (cut : Among r rows) where
  apart : AllByRecursion (λ o. alike r o ≡ false) cut.front
      × AllByRecursion (λ o. alike r o ≡ false) cut.back
  apart = cut_apart cut.front r cut.back (rw cut.is at sorted)

  parts : StampsBelow n cut.front × StampsBelow n (r ∷ cut.back)
  parts = all_parts (λ (o : Row). o.stamp < n) cut.front (r ∷ cut.back) (rw cut.is at below)

  own : alike r r ≡ true
  own = own_key_is r.subscription

  abbrev again : Row → Row
  again o = if alike r o then stamped n o else o

  restamp_is : map again rows ≡ cut.front ++ stamped n r ∷ cut.back
  restamp_is = ap (map again) cut.is ∙ rw (map-append again cut.front (r ∷ cut.back))
      (rw (none_stamped (alike r) n cut.front apart.0, own)
      (rw (none_stamped (alike r) n cut.back apart.1)))

  others_is : filter (λ o. not (alike r o)) rows ≡ cut.front ++ cut.back
  others_is = ap (filter (λ o. not (alike r o))) cut.is
      ∙ rw (filter-append (λ o. not (alike r o)) cut.front (r ∷ cut.back))
      (rw (filter-kept (alike r) cut.front apart.0, own)
      (rw (filter-kept (alike r) cut.back apart.1)))

  one_is : filter (alike r) rows ≡ r ∷ []
  one_is = ap (filter (alike r)) cut.is ∙ rw (filter-append (alike r) cut.front (r ∷ cut.back))
      (rw (filter-none (alike r) cut.front apart.0, own)
      (rw (filter-none (alike r) cut.back apart.1)))

  pub turned-one : shown (by_turn (map (λ o. if alike r o then stamped n o else o) rows))
      ≡ put_last (same_key r.subscription) (shown (by_turn rows))
  turned-one =
      rw (restamp_is, by_turn-last cut.front (stamped n r) cut.back parts.0 parts.1.1)
      (rw (← map-put_last (λ (o : Row). o.subscription) (alike r) (same_key r.subscription)
      (λ o. refl) (by_turn rows))
      (rw (← by_turn-filter (λ o. not (alike r o)) rows, ← by_turn-filter (alike r) rows)
      (rw (others_is, one_is) (simp map-append))))

  pub apart-one : AreApart rows → AreApart (map (λ o. if alike r o then stamped n o else o) rows)
  apart-one h =
      rw restamp_is (apart-insert cut.front (stamped n r) cut.back parts.0 parts.1.1
      (rw others_is at (apart-filter (λ o. not (alike r o)) rows h)))
