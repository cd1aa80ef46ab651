-- Members that are served: the world's rows and their turns.
use Rattle.std.proofs.Common.{◌≡◌, ◌+◌, ◌<◌, arith, Bool, true, false, true≢false, cond, ◌||◌, List}
use Rattle.std.proofs.Common.{[], ◌∷◌, map, length, nat_eq, ℕ, Option, Some, None, refl, sym, ◌∙◌}
use Rattle.std.proofs.Common.{if◌then◌else◌, ap, subst}
use Rattle.std.specs.declared.cmp.Ordering.TheVariants.{Less}
use Rattle.std.specs.Ordering.{is_eq}
use Rattle.std.specs.List.{filter, filter_map, cons_option, list_any, AllByRecursion, IsDistinct}
use Rattle.std.specs.List.Sorted.{IsStrictlySortedBy}
use Rattle.std.proofs.lemmas.List.Kept.{IsStrictlySortedBy-filter}
use Rattle.std.proofs.lemmas.Bool.{and_parts}
use Rattle.std.proofs.Math.Bool.{or-false}
use Rattle.mq_world.specs.Lists.{Text, SameElements}
use Rattle.mq_world.specs.World.{World, IsWorld, Group, Subscription, Row, Message, row_cmp}
use Rattle.mq_world.specs.World.{group_cmp, same_share, is_in_group, rows_in, same_key}
use Rattle.mq_world.specs.Sessions.{can_be_served}
use Rattle.mq_world.specs.Copies.{filter_matches}
use Rattle.mq_subscriptions.specs.Turns.{all_turned}
use Rattle.mq_world.specs.Groups.{groups_of, turn_of, served_rows, served_by, restamp}
use Rattle.mq_world.specs.Turns.{by_turn, in_turn, SameInTurn}
use Rattle.mq_world.proofs.ListLemmas.{map-filter, filter-same}
use Rattle.mq_world.proofs.SameLemmas.{SameElements-map}
use Rattle.mq_world.proofs.SortedLemmas.{ties}
use Rattle.mq_world.proofs.BoolLemmas.{pick}
use Rattle.mq_world.proofs.OrderLemmas.{group_total, all_filtered, all_passed, same_share-is}
use Rattle.mq_world.proofs.OrderLemmas.{same_text-is, same_text-itself}
use Rattle.mq_subscriptions.proofs.InTurn.{in_group_same}
use Rattle.mq_world.proofs.Splits.{some_same}
use Rattle.mq_subscriptions.proofs.TurnLemmas.{StampsBelow, by_turn-filter}
use Rattle.mq_subscriptions.proofs.JoinTurn.{AreApart, stamps, apart-from, apart-to, turn-elements}
use Rattle.mq_router.proofs.GroupLemmas.{group_tie, group_tied, groups_of-sorted}
use Rattle.mq_subscriptions.proofs.OneServed.{shown, Among, found_among, found_passes, alike}
use Rattle.mq_subscriptions.proofs.OneServed.{stamped, turned-elements, turned-group, turned-one}
use Rattle.mq_subscriptions.proofs.OneServed.{apart-one}

-- ## Those served in a group

abbrev one_or_none : Option Row → List Row
one_or_none None = []
one_or_none (Some r) = r ∷ []

-- groups with one member are one
same_group : (g k : Group) (x : Subscription) → is_in_group g x ≡ true → is_in_group k x ≡ true
    → ties group_cmp group_total g k ≡ true
same_group g k x a b =
    let in_g = and_parts (same_share x.share (Some g.share)) _ a in
    let in_k = and_parts (same_share x.share (Some k.share)) _ b in
    let share : g.share ≡ k.share = some_same (sym (same_share-is x.share (Some g.share) in_g.0)
    ∙ same_share-is x.share (Some k.share) in_k.0) in
    let f : g.filter ≡ k.filter = sym (same_text-is x.filter g.filter in_g.1)
    ∙ same_text-is x.filter k.filter in_k.1 in
    grind (arith, group_tie, share, f, same_text-itself)

module _ (can : Text → Bool) (rows : List Row) where
  abbrev T : Group → Option Row
  T k = turn_of can rows k

  abbrev able : Row → Bool
  able row = can row.subscription.client

  -- the one whose turn it is is a member
  turn_in : (k : Group) (r : Row) → T k ≡ Some r → is_in_group k r.subscription ≡ true
  turn_in k r e = grind (arith, found_passes, all_filtered, all_passed)

  turn_among : (k : Group) (r : Row) → T k ≡ Some r → Among r (rows_in k rows)
  turn_among k r e = grind (arith, found_among)

  module _ (g : Group) where
    abbrev mine : Row → Bool
    mine r = is_in_group g r.subscription

    abbrev has : List Group → Bool
    has ks = list_any (ties group_cmp group_total g) ks

    none_has : (ks : List Group) → AllByRecursion (λ k. group_cmp g k ≡ Less) ks → has ks ≡ false
    none_has [] h = refl
    none_has (k ∷ ks) h = ap (λ o. is_eq o || has ks) h.0 ∙ none_has ks h.1

    served_among : (ks : List Group) → IsStrictlySortedBy group_cmp ks
        → filter mine (filter_map T ks) ≡ one_or_none (if has ks then T g else None)
    unfolding IsStrictlySortedBy
    served_among [] s = refl
    served_among (k ∷ ks) s =
        let rest : List Row = filter_map T ks in
        pick (ties group_cmp group_total g k)
        (λ t. (let gk : g ≡ k = group_tied g k t in
        let no_more : filter mine rest ≡ [] = served_among ks s.1
        ∙ ap (λ b. one_or_none (if b then T g else None))
        (none_has ks (subst (λ (j : Group). AllByRecursion (λ y. group_cmp j y ≡ Less) ks)
        (sym gk) s.0)) in
        let P : Option Row → Type 0 = λ o. T k ≡ o
        → filter mine (cons_option o rest) ≡ one_or_none o in
        (elim (T k) as P [
          | None ↦ λ e. no_more
          | Some r ↦ λ e. ap (λ b. cond b (r ∷ filter mine rest) (filter mine rest))
              (ap (λ (j : Group). is_in_group j r.subscription) gk ∙ turn_in k r e)
              ∙ ap (λ l. r ∷ l) no_more
        ]) refl
        ∙ ap (λ (j : Group). one_or_none (T j)) (sym gk)
        ∙ sym (ap (λ b. one_or_none (if b || has ks then T g else None)) t)))
        (λ f. (let P : Option Row → Type 0 = λ o. T k ≡ o
        → filter mine (cons_option o rest) ≡ filter mine rest in
        (elim (T k) as P [
          | None ↦ λ e. refl
          | Some r ↦ λ e. ap (λ b. cond b (r ∷ filter mine rest) (filter mine rest))
              (pick (mine r)
              (λ t. absurd (true≢false (sym (same_group g k r.subscription t (turn_in k r e))
              ∙ f))) (λ n. n))
        ]) refl
        ∙ served_among ks s.1 ∙ sym (ap (λ b. one_or_none (if b || has ks then T g else None)) f)))

abbrev is_among : List Row → Row → Bool
is_among ss row = list_any (λ other. same_key other.subscription row.subscription) ss

-- which rows of a group are served
among_group : (g : Group) (row : Row) → is_in_group g row.subscription ≡ true → (ss : List Row)
    → is_among ss row ≡ is_among (filter (λ o. is_in_group g o.subscription) ss) row
among_group g row t [] = refl
among_group g row t (o ∷ ss) = grind (arith, among_group g row t ss, pick, in_group_same)

restamped_in : (n : ℕ) (g : Group) (ss rows : List Row)
    → map (restamp n ss) (rows_in g rows)
    ≡ map (restamp n (filter (λ o. is_in_group g o.subscription) ss)) (rows_in g rows)
restamped_in n g ss [] = refl
restamped_in n g ss (r ∷ rows) =
    let few : List Row = filter (λ o. is_in_group g o.subscription) ss in
    let rest : List Row = rows_in g rows in
    let P : Bool → Type 0 = λ b. is_in_group g r.subscription ≡ b
    → map (restamp n ss) (cond b (r ∷ rest) rest)
    ≡ map (restamp n few) (cond b (r ∷ rest) rest) in
    (elim (is_in_group g r.subscription) as P [
      | true ↦ λ e. ap (λ b. (if b then stamped n r else r) ∷ map (restamp n ss) rest)
          (among_group g r e ss) ∙ ap (λ l. restamp n few r ∷ l) (restamped_in n g ss rows)
      | false ↦ λ e. restamped_in n g ss rows
    ]) refl

-- ## The world after a publish

-- new stamps change no subscription
pub restamped-shown : (n : ℕ) (ss rows : List Row) → shown (map (restamp n ss) rows) ≡ shown rows
restamped-shown n ss [] = refl
restamped-shown n ss (r ∷ rows) = grind (arith, restamped-shown n ss rows, shown, stamped)

restamped-group : (n : ℕ) (ss : List Row) (g : Group) (r : Row)
    → is_in_group g (restamp n ss r).subscription ≡ is_in_group g r.subscription
restamped-group n ss g r = grind (arith, stamped)

rows_restamped : (n : ℕ) (ss : List Row) (g : Group) (rows : List Row)
    → rows_in g (map (restamp n ss) rows) ≡ map (restamp n ss) (rows_in g rows)
rows_restamped n ss g rows =
    sym (ap (map (restamp n ss))
    (filter-same (λ r. is_in_group g r.subscription)
    (λ r. is_in_group g (restamp n ss r).subscription)
    (λ r. sym (restamped-group n ss g r)) rows)
    ∙ map-filter (restamp n ss) (λ r. is_in_group g r.subscription) rows)

shown_group : (g : Group) (rows : List Row)
    → filter (is_in_group g) (shown rows) ≡ shown (rows_in g rows)
shown_group g rows = sym (map-filter (λ (r : Row). r.subscription) (is_in_group g) rows)

module _ (w : World) (h : IsWorld w) (m : Message) where
  abbrev can : Text → Bool
  can = can_be_served w m.topic

  abbrev S : List Row
  S = served_by w m

  module _ (g : Group) where
    abbrev G : List Row
    G = rows_in g w.rows

    abbrev matching : List Group
    matching = filter (λ group. filter_matches group.filter m.topic) (groups_of w.rows)

    abbrev E : Option Row
    E = if has can w.rows g matching then turn_of can w.rows g else None

    abbrev few : List Row
    few = filter (λ o. is_in_group g o.subscription) S

    few_is : few ≡ one_or_none E
    unfolding served_rows
    few_is = served_among can w.rows g matching
        (IsStrictlySortedBy-filter group_cmp (λ group. filter_matches group.filter m.topic)
        (groups_of w.rows) (groups_of-sorted w.rows))

    turn_if : (b : Bool) (r : Row) → (if b then turn_of can w.rows g else None) ≡ Some r
        → turn_of can w.rows g ≡ Some r
    turn_if true r e = e
    turn_if false r e = absurd (let no : ◌≡◌ {A = Option Row} None (Some r) = e in cc)

    G_sorted : IsStrictlySortedBy row_cmp G
    G_sorted = IsStrictlySortedBy-filter row_cmp (λ o. is_in_group g o.subscription) w.rows h.rows

    G_below : StampsBelow w.accepted G
    G_below = all_filtered (λ (o : Row). o.stamp < w.accepted) (λ o. is_in_group g o.subscription)
        w.rows h.stamps

    none_restamped : (rows : List Row) → map (restamp w.accepted []) rows ≡ rows
    none_restamped [] = refl
    none_restamped (r ∷ rows) = ap (λ l. r ∷ l) (none_restamped rows)

    one_restamped : (r : Row) (rows : List Row)
        → map (restamp w.accepted (r ∷ [])) rows
        ≡ map (λ o. if alike r o then stamped w.accepted o else o) rows
    one_restamped r [] = refl
    one_restamped r (o ∷ rows) = grind (arith, one_restamped r rows, stamped, or-false, alike)

    group_by : (e : Option Row) → E ≡ e
        → shown (by_turn (map (restamp w.accepted (one_or_none e)) G))
        ≡ all_turned (shown (one_or_none e)) (shown (by_turn G))
    group_by None is = ap (λ l. shown (by_turn l)) (none_restamped G)
    group_by (Some r) is =
        ap (λ l. shown (by_turn l)) (one_restamped r G)
        ∙ turned-one w.accepted G G_sorted G_below r
        (turn_among can w.rows g r (turn_if (has can w.rows g matching) r is))

    apart_by : (e : Option Row) → E ≡ e → AreApart (map (restamp w.accepted (one_or_none e)) G)
    apart_by None is = subst (λ (l : List Row). AreApart l) (sym (none_restamped G))
        (apart-from G (h.apart g))
    apart_by (Some r) is =
        subst (λ (l : List Row). AreApart l) (sym (one_restamped r G))
        (apart-one w.accepted G G_sorted G_below r
        (turn_among can w.rows g r (turn_if (has can w.rows g matching) r is))
        (apart-from G (h.apart g)))

    pub served-apart : IsDistinct nat_eq (stamps (rows_in g (map (restamp w.accepted S) w.rows)))
    served-apart = grind (arith, apart-to, rows_restamped, restamped_in, few_is, apart_by)

    served_group : filter (is_in_group g) (all_turned (shown S) (in_turn w))
        ≡ filter (is_in_group g) (shown (by_turn (map (restamp w.accepted S) w.rows)))
    served_group =
        turned-group g (shown S) (in_turn w)
        ∙ ap (λ l. all_turned l (filter (is_in_group g) (in_turn w)))
        (shown_group g S ∙ ap shown few_is)
        ∙ ap (all_turned (shown (one_or_none E)))
        (shown_group g (by_turn w.rows)
        ∙ ap shown (sym (by_turn-filter (λ o. is_in_group g o.subscription) w.rows)))
        ∙ sym (group_by E refl)
        ∙ ap (λ l. shown (by_turn l))
        (sym (rows_restamped w.accepted S g w.rows ∙ restamped_in w.accepted g S w.rows
        ∙ ap (λ l. map (restamp w.accepted l) G) few_is))
        ∙ ap shown (by_turn-filter (λ o. is_in_group g o.subscription)
        (map (restamp w.accepted S) w.rows))
        ∙ sym (shown_group g (by_turn (map (restamp w.accepted S) w.rows)))

  shown-elements : (rows : List Row) → SameElements (shown (by_turn rows)) (shown rows)
  shown-elements rows = SameElements-map (λ (r : Row). r.subscription) (by_turn rows) rows
      (turn-elements rows)

  pub serves : SameInTurn (all_turned (shown S) (in_turn w))
      (shown (by_turn (map (restamp w.accepted S) w.rows)))
  serves = record {
    elements = λ p. turned-elements (shown S) (in_turn w) p ∙ shown-elements w.rows p
        ∙ ap (λ l. length (filter p l)) (sym (restamped-shown w.accepted S w.rows))
        ∙ sym (shown-elements (map (restamp w.accepted S) w.rows) p);
    members = served_group;
  }

restamped_above : (n : ℕ) (ss : List Row) (r : Row) (rows : List Row)
    → AllByRecursion (λ o. row_cmp r o ≡ Less) rows
    → AllByRecursion (λ o. row_cmp (restamp n ss r) o ≡ Less) (map (restamp n ss) rows)
restamped_above n ss r [] h = tt
restamped_above n ss r (o ∷ rows) h = grind (arith, restamped_above n ss r rows h.1, stamped)

-- new stamps leave rows in their order
pub restamped-sorted : (n : ℕ) (ss rows : List Row) → IsStrictlySortedBy row_cmp rows
    → IsStrictlySortedBy row_cmp (map (restamp n ss) rows)
unfolding IsStrictlySortedBy
restamped-sorted n ss [] s = tt
restamped-sorted n ss (r ∷ rows) s =
    (restamped_above n ss r rows s.0, restamped-sorted n ss rows s.1)

-- if all stamps are below a number, then all are below the next when some rows get it
pub restamped-below : (n : ℕ) (ss rows : List Row) → StampsBelow n rows
    → StampsBelow (n + 1) (map (restamp n ss) rows)
restamped-below n ss [] h = tt
restamped-below n ss (r ∷ rows) h = grind (arith, restamped-below n ss rows h.1, stamped)
