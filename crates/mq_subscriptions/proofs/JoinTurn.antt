-- A subscription that joins: the world's rows and their turns.
use Rattle.std.proofs.Common.{◌≡◌, ◌≢◌, ℕ, ◌<◌, arith, Bool, true, false, true≢false, List, [], ◌∷◌}
use Rattle.std.proofs.Common.{◌++◌, map, length, Option, Some, None, is_some, nat_le, nat_eq}
use Rattle.std.proofs.Common.{if◌then◌else◌, refl, sym, ◌∙◌, ap, Ordering, Less, Equal, Greater}
use Rattle.std.proofs.Common.{is_eq, filter, find, append-nil}
use Rattle.std.specs.Ordering.{ordering_reverse}
use Rattle.std.specs.Option.{option_map_or}
use Rattle.std.specs.List.{list_any, AllByRecursion, IsDistinct}
use Rattle.std.specs.List.Sorted.{IsStrictlySortedBy}
use Rattle.std.proofs.lemmas.List.{map-append}
use Rattle.std.proofs.lemmas.List.Elements.{filter-append}
use Rattle.mq_world.specs.Lists.{with_row, SameElements}
use Rattle.mq_world.specs.World.{World, IsWorld, Group, Subscription, Row, row_cmp}
use Rattle.mq_world.specs.World.{subscription_cmp, is_in_group, rows_in, same_key}
use Rattle.mq_world.specs.After.{kept_stamp}
use Rattle.mq_world.specs.Turns.{put_in_turn, by_turn, in_turn}
use Rattle.mq_subscriptions.specs.Turns.{upsert}
use Rattle.mq_world.proofs.ListLemmas.{map-filter, filter-same, list_any-map, any-none}
use Rattle.mq_world.proofs.ListLemmas.{is_some-find}
use Rattle.mq_world.proofs.SameLemmas.{list_any-SameElements}
use Rattle.mq_world.proofs.OrderLemmas.{subscription_total, tied_is, before, behind, all_weaker}
use Rattle.mq_world.proofs.OrderLemmas.{all_filtered}
use Rattle.mq_world.proofs.BoolLemmas.{pick}
use Rattle.mq_world.proofs.Splits.{some_same, none_some}
use Rattle.mq_subscriptions.proofs.Outcomes.{pick_order}
use Rattle.mq_subscriptions.proofs.InTurn.{map-kept, in_group_same}
use Rattle.mq_subscriptions.proofs.TurnLemmas.{StampsBelow, by_turn-map, by_turn-last, all-by_turn}
use Rattle.std.proofs.lemmas.Bool.{ne_eqb, eq-eqb}

-- ## The rows in turn are the rows

put-elements : (p : Row → Bool) (r : Row) (l : List Row)
    → length (filter p (put_in_turn r l)) ≡ length (filter p (r ∷ l))
put-elements p r [] = refl
put-elements p r (o ∷ os) =
    pick (nat_le r.stamp o.stamp) (λ t. rw t) (λ n. rw n (grind (arith, put-elements p r os)))

-- rows that are put in turn are the same elements
pub turn-elements : (rows : List Row) → SameElements (by_turn rows) rows
turn-elements [] = λ p. refl
turn-elements (r ∷ rows) = λ p. grind (arith, put-elements p r (by_turn rows), turn-elements rows p)

-- what is true of the subscription of each row is true of all subscriptions that rows show
pub shown-all : (P : Subscription → Type 0) (rows : List Row)
    → AllByRecursion (λ r. P r.subscription) rows
    → AllByRecursion P (map (λ (r : Row). r.subscription) rows)
shown-all P [] h = tt
shown-all P (r ∷ rows) h = (h.0, shown-all P rows h.1)

-- ## Stamps apart

-- no two rows have the same stamp
abbrev pub AreApart : List Row → Type 0
AreApart [] = Unit {0}
AreApart (row ∷ rows) = AllByRecursion (λ other. row.stamp ≢ other.stamp) rows × AreApart rows

abbrev pub stamps : List Row → List ℕ
stamps rows = map (λ (r : Row). r.stamp) rows

-- rows whose stamps are distinct are apart
pub apart-from : (rows : List Row) → IsDistinct nat_eq (stamps rows) → AreApart rows
unfolding IsDistinct
apart-from [] h = tt
apart-from (r ∷ rows) h = (go rows h.0, apart-from rows h.1)
  where
    go : (os : List Row) → AllByRecursion (λ n. nat_eq r.stamp n ≡ false) (stamps os)
        → AllByRecursion (λ (o : Row). r.stamp ≢ o.stamp) os
    go [] k = tt
    go (o ∷ os) k = (λ e. true≢false (sym (eq-eqb r.stamp o.stamp e) ∙ k.0), go os k.1)

-- and rows that are apart have distinct stamps
pub apart-to : (rows : List Row) → AreApart rows → IsDistinct nat_eq (stamps rows)
unfolding IsDistinct
apart-to [] h = tt
apart-to (r ∷ rows) h = (go rows h.0, apart-to rows h.1)
  where
    go : (os : List Row) → AllByRecursion (λ (o : Row). r.stamp ≢ o.stamp) os
        → AllByRecursion (λ n. nat_eq r.stamp n ≡ false) (stamps os)
    go [] k = tt
    go (o ∷ os) k = (ne_eqb r.stamp o.stamp k.0, go os k.1)

all-insert : (P : Row → Type 0) (front : List Row) (x : Row) (back : List Row) → P x
    → AllByRecursion P (front ++ back) → AllByRecursion P (front ++ x ∷ back)
all-insert P [] x back h k = (h, k)
all-insert P (y ∷ front) x back h k = (k.0, all-insert P front x back h k.1)

-- a row with a stamp above all others is put among rows that are apart: they all are
pub apart-insert : (front : List Row) (x : Row) (back : List Row) → StampsBelow x.stamp front
    → StampsBelow x.stamp back → AreApart (front ++ back) → AreApart (front ++ x ∷ back)
apart-insert [] x back h k a = (
  all_weaker (λ (o : Row). o.stamp < x.stamp) (λ o. x.stamp ≢ o.stamp) (λ o e. omega arith) back k,
  a,
)
apart-insert (y ∷ front) x back h k a =
    let below : y.stamp < x.stamp = h.0 in
    let first = all-insert (λ (o : Row). y.stamp ≢ o.stamp) front x back (omega arith) a.0 in
    (first, apart-insert front x back h.1 k a.1)

-- rows that are apart are so after a filter
pub apart-filter : (q : Row → Bool) (rows : List Row) → AreApart rows → AreApart (filter q rows)
apart-filter q [] h = tt
apart-filter q (r ∷ rows) h =
    let rest = apart-filter q rows h.1 in
    pick (q r) (λ t. rw t (all_filtered (λ (o : Row). r.stamp ≢ o.stamp) q rows h.0, rest))
    (λ n. rw n rest)

apart-map : (f : Row → Row) → ((x : Row) → (f x).stamp ≡ x.stamp) → (rows : List Row)
    → AreApart rows → AreApart (map f rows)
apart-map f keeps [] h = tt
apart-map f keeps (r ∷ rows) h = (go rows h.0, apart-map f keeps rows h.1)
  where
    go : (os : List Row) → AllByRecursion (λ (o : Row). r.stamp ≢ o.stamp) os
        → AllByRecursion (λ (o : Row). (f r).stamp ≢ o.stamp) (map f os)
    go [] k = tt
    go (o ∷ os) k = (λ e. k.0 (sym (keeps r) ∙ e ∙ keeps o), go os k.1)

-- ## A row put among rows

module _ (s : Subscription) where
  abbrev first : Row → Bool
  first r = before s r.subscription

  abbrev later : Row → Bool
  later r = behind s r.subscription

  abbrev pub same : Row → Bool
  same r = same_key s r.subscription

  abbrev Above : List Row → Type 0
  Above rows = AllByRecursion (λ (r : Row). subscription_cmp s r.subscription ≡ Less) rows

  flip : (a b : Subscription) (o : Ordering) → subscription_cmp a b ≡ o
      → subscription_cmp b a ≡ ordering_reverse o
  flip a b o e = subscription_total.antisymm b a ∙ ap ordering_reverse e

  none_first : (rows : List Row) → Above rows → filter first rows ≡ []
  none_first [] h = refl
  none_first (r ∷ rows) h = rw (flip s r.subscription Less h.0) (none_first rows h.1)

  all_later : (rows : List Row) → Above rows → filter later rows ≡ rows
  all_later [] h = refl
  all_later (r ∷ rows) h = rw (h.0, all_later rows h.1)

  none_alike : (rows : List Row) → Above rows → AllByRecursion (λ r. same r ≡ false) rows
  none_alike [] h = tt
  none_alike (r ∷ rows) h = (
    sym (tied_is r.subscription s) ∙ ap is_eq (flip s r.subscription Less h.0),
    none_alike rows h.1,
  )

  above_too : (r : Row) (rows : List Row) → subscription_cmp s r.subscription ≡ Less
      → AllByRecursion (λ o. row_cmp r o ≡ Less) rows → Above rows
  above_too r rows e h = all_weaker (λ (o : Row). row_cmp r o ≡ Less)
      (λ o. subscription_cmp s o.subscription ≡ Less)
      (λ o k. subscription_total.trans s r.subscription o.subscription e k) rows h

  -- where no row has the key
  gap : (rows : List Row) → IsStrictlySortedBy row_cmp rows
      → AllByRecursion (λ r. same r ≡ false) rows → filter first rows ++ filter later rows ≡ rows
  unfolding IsStrictlySortedBy
  gap [] t n = refl
  gap (r ∷ rows) t n =
      pick_order (subscription_cmp r.subscription s)
      (λ e. rw (e, flip r.subscription s Less e) (ap (λ l. r ∷ l) (gap rows t.1 n.1)))
      (λ e. absurd (true≢false (sym (ap is_eq e) ∙ tied_is r.subscription s ∙ n.0)))
      (λ e. (let k = flip r.subscription s Greater e in
      let up : Above rows = above_too r rows k t.0 in
      rw (e, k, none_first rows up, all_later rows up)))

  -- the row with the key asks for something else, and keeps its stamp
  abbrev pub renewed : Row → Row
  renewed r = if same r then record r { subscription = s } else r

  all_stay : (rows : List Row) → AllByRecursion (λ r. same r ≡ false) rows → map renewed rows ≡ rows
  all_stay [] n = refl
  all_stay (r ∷ rows) n = rw (n.0, all_stay rows n.1)

  find_none : (rows : List Row) → AllByRecursion (λ r. same r ≡ false) rows → find same rows ≡ None
  find_none [] n = refl
  find_none (r ∷ rows) n = rw n.0 (find_none rows n.1)

  pub none_found : (rows : List Row) → find same rows ≡ None
      → AllByRecursion (λ r. same r ≡ false) rows
  none_found [] h = tt
  none_found (r ∷ rows) h =
      pick (same r) (λ t. absurd (none_some (sym (rw t at h))))
      (λ n. (n, none_found rows (rw n at h)))

  pub row_replaced : (rows : List Row) (old : Row) → IsStrictlySortedBy row_cmp rows
      → find same rows ≡ Some old → with_row row_cmp
      (record { subscription = s; stamp = old.stamp }) rows ≡ map renewed rows
  unfolding IsStrictlySortedBy with_row
  row_replaced [] old t h = absurd (none_some h)
  row_replaced (r ∷ rows) old t h =
      pick_order (subscription_cmp r.subscription s)
      (λ e. (let n : same r ≡ false = sym (tied_is r.subscription s) ∙ ap is_eq e in
      rw (e, flip r.subscription s Less e, n)
      (ap (λ l. r ∷ l) (row_replaced rows old t.1 (rw n at h)))))
      (λ e. (let y : same r ≡ true = sym (tied_is r.subscription s) ∙ ap is_eq e in
      let up : Above rows = all_weaker (λ (o : Row). row_cmp r o ≡ Less)
      (λ o. subscription_cmp s o.subscription ≡ Less)
      (λ o less. sym (subscription_total.congr r.subscription s o.subscription e) ∙ less)
      rows t.0 in
      rw (e, flip r.subscription s Equal e, y, none_first rows up, all_later rows up)
      (rw (all_stay rows (none_alike rows up), ← some_same (rw y at h)))))
      (λ e. (let k = flip r.subscription s Greater e in
      absurd (none_some (sym (find_none (r ∷ rows) (none_alike (r ∷ rows)
      (k, above_too r rows k t.0))) ∙ h))))

  -- ## Turns

  renewed_shown : (rows : List Row) → map (λ (r : Row). r.subscription) (map renewed rows)
      ≡ map (λ x. if same_key s x then s else x) (map (λ (r : Row). r.subscription) rows)
  renewed_shown [] = refl
  renewed_shown (r ∷ rows) =
      pick (same r) (λ t. rw (t, renewed_shown rows)) (λ n. rw (n, renewed_shown rows))

  pub renewed_stamp : (r : Row) → (renewed r).stamp ≡ r.stamp
  renewed_stamp r = pick (same r) (λ t. rw t) (λ n. rw n)

  renewed_group : (g : Group) (r : Row) → is_in_group g (renewed r).subscription
      ≡ is_in_group g r.subscription
  renewed_group g r =
      pick (same r) (λ t. rw t (sym (in_group_same s r.subscription g t))) (λ n. rw n)

  module _ (w : World) (h : IsWorld w) where
    abbrev stamp_of : Option Row → ℕ
    stamp_of o = option_map_or (λ (r : Row). r.stamp) o w.accepted

    abbrev put : Option Row → List Row
    put o = with_row row_cmp (record { subscription = s; stamp = stamp_of o }) w.rows

    joins_by : (o : Option Row) → find same w.rows ≡ o
        → upsert s (in_turn w) ≡ map (λ (r : Row). r.subscription) (by_turn (put o))
    unfolding with_row
    joins_by (Some old) e =
        let any : list_any (same_key s) (in_turn w) ≡ true =
        list_any-map (λ (r : Row). r.subscription) (same_key s) (by_turn w.rows)
        ∙ list_any-SameElements same (by_turn w.rows) w.rows (turn-elements w.rows)
        ∙ sym (is_some-find same w.rows) ∙ ap is_some e in
        rw (any, row_replaced w.rows old h.rows e, by_turn-map renewed w.rows renewed_stamp)
        (rw (renewed_shown (by_turn w.rows)) (append-nil _))
    joins_by None e =
        let none : AllByRecursion (λ r. same r ≡ false) w.rows = none_found w.rows e in
        let shown_none : AllByRecursion (λ x. same_key s x ≡ false) (in_turn w) =
        shown-all (λ x. same_key s x ≡ false) (by_turn w.rows)
        (all-by_turn (λ r. same r ≡ false) w.rows none) in
        let x : Row = record { subscription = s; stamp = w.accepted } in
        rw (any-none (same_key s) (in_turn w) shown_none, map-kept s (in_turn w) shown_none)
        (sym (ap (map (λ (r : Row). r.subscription))
        (by_turn-last (filter first w.rows) x (filter later w.rows)
        (all_filtered (λ (r : Row). r.stamp < w.accepted) first w.rows h.stamps)
        (all_filtered (λ (r : Row). r.stamp < w.accepted) later w.rows h.stamps)
        ∙ ap (λ l. by_turn l ++ x ∷ []) (gap w.rows h.rows none))
        ∙ map-append (λ (r : Row). r.subscription) (by_turn w.rows) (x ∷ [])))

    pub joins : upsert s (in_turn w) ≡ map (λ (r : Row). r.subscription)
        (by_turn (with_row row_cmp (record { subscription = s; stamp = kept_stamp w s }) w.rows))
    joins = joins_by (find same w.rows) refl

    apart_by : (o : Option Row) → find same w.rows ≡ o → (g : Group) → AreApart (rows_in g (put o))
    unfolding with_row
    apart_by (Some old) e g =
        rw (row_replaced w.rows old h.rows e)
        (rw (← map-filter renewed (λ r. is_in_group g r.subscription) w.rows)
        (rw (filter-same (λ r. is_in_group g (renewed r).subscription)
        (λ r. is_in_group g r.subscription) (renewed_group g) w.rows)
        (apart-map renewed renewed_stamp (rows_in g w.rows)
        (apart-from (rows_in g w.rows) (h.apart g)))))
    apart_by None e g =
        let none : AllByRecursion (λ r. same r ≡ false) w.rows = none_found w.rows e in
        let x : Row = record { subscription = s; stamp = w.accepted } in
        let F : List Row = filter first w.rows in
        let L : List Row = filter later w.rows in
        let q : Row → Bool = λ r. is_in_group g r.subscription in
        let both : AreApart (filter q F ++ filter q L) =
        rw (← filter-append q F L, gap w.rows h.rows none)
        (apart-from (rows_in g w.rows) (h.apart g)) in
        let below : (p : Row → Bool) → StampsBelow w.accepted (filter q (filter p w.rows)) =
        λ p. all_filtered (λ (r : Row). r.stamp < w.accepted) q (filter p w.rows)
        (all_filtered (λ (r : Row). r.stamp < w.accepted) p w.rows h.stamps) in
        rw (filter-append q F (x ∷ L)) (pick (q x)
        (λ t. rw t (apart-insert (filter q F) x (filter q L) (below first) (below later) both))
        (λ n. rw n both))

    pub apart-joined : (g : Group) → AreApart (rows_in g
        (with_row row_cmp (record { subscription = s; stamp = kept_stamp w s }) w.rows))
    apart-joined g = apart_by (find same w.rows) refl g
