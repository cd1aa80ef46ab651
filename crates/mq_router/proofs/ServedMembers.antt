-- The members that are served, as they are gathered by share name.
use Rattle.std.proofs.Common.{◌≡◌, Bool, true, false, true≢false, ◌&&◌, ◌||◌, List, [], ◌∷◌, ◌++◌}
use Rattle.std.proofs.Common.{map, Option, Some, None, is_some, refl, sym, ◌∙◌, ap, arith}
use Rattle.std.proofs.lemmas.Bool.{and_right}
use Rattle.std.specs.Rc.{rc_str_bytes}
use Rattle.std.specs.declared.cmp.Ordering.TheVariants.{Less}
use Rattle.std.specs.Ordering.{is_eq, ordering_then}
use Rattle.std.specs.Cmp.{tied_itself}
use Rattle.std.specs.Cmp.Lexicographic.{nat_list_cmp_total}
use Rattle.std.specs.List.{filter, filter_map, cons_option, find, flat_map, list_any}
use Rattle.std.specs.List.{AllByRecursion}
use Rattle.std.specs.List.Sorted.{IsStrictlySortedBy}
use Rattle.std.proofs.lemmas.List.{map-append, append-nil}
use Rattle.std.proofs.lemmas.List.Kept.{IsStrictlySortedBy-filter}
use Rattle.std.proofs.lemmas.List.Elements.{filter-append, filter_map-append}
use Rattle.std.proofs.Math.Bool.{or-true}
use Rattle.mq_topic.specs.Levels.{levels, level_order}
use Rattle.mq_acl.specs.AccessLists.{AccessList}
use Rattle.mq_world.specs.Sessions.{is_reader}
use Rattle.mq_world.specs.Lists.{Text, same_text, text_cmp, in_order}
use Rattle.mq_world.specs.World.{Session, Subscription, Group, Message, group_cmp, is_in_group}
use Rattle.mq_subscriptions.specs.Turns.{groups_among, next_members, shares_of, turns_listed}
use Rattle.mq_subscriptions.specs.Turns.{turn_of, turns_of}
use Rattle.mq_world.specs.Copies.{filter_matches}
use Rattle.mq_subscriptions.specs.Filters.{Entry, AreHere, AreEntriesFor, is_text}
use Rattle.mq_subscriptions.specs.Matches.{AreAscending, rows_found}
use Rattle.mq_router.specs.delivery.Copies.{turns_at}
use Rattle.mq_world.proofs.ListLemmas.{list_any-map, list_any-same, any-append}
use Rattle.mq_world.proofs.OrderLemmas.{group_total, level_equal, all_append, text_flip}
use Rattle.mq_world.proofs.OrderLemmas.{same_text-is, same_text-itself}
use Rattle.mq_world.proofs.SortedLemmas.{sorted-in_order, any-in_order, ties, same_gathered}
use Rattle.mq_world.proofs.SortedLemmas.{any-filter, sorted-append}
use Rattle.mq_world.proofs.BoolLemmas.{pick}
use Rattle.mq_subscriptions.proofs.TextMaps.{is_text-is, key_text}
use Rattle.mq_subscriptions.proofs.AscendingLemmas.{by_each_key, none_there}
use Rattle.mq_router.proofs.GroupLemmas.{group_tie, group_tied, groups-sorted, groups-any, shown}
use Rattle.mq_router.proofs.GroupLemmas.{any-from_filter}
use Rattle.mq_subscriptions.specs.declared.subscriptions.turn.Turn.{Turn}

differ : (a b : Text) → level_order (levels a) (levels b) ≡ Less → same_text a b ≡ false
differ a b h = sym (level_equal a b) ∙ ap is_eq h

far : (a : Entry) (ats : List Entry) → AllByRecursion (λ y. level_order (levels a.filter) y ≡ Less)
    (map (λ (b : Entry). levels b.filter) ats)
    → AllByRecursion (λ (b : Entry). same_text a.filter b.filter ≡ false) ats
far a [] h = tt
far a (b ∷ ats) h = (differ a.filter b.filter h.0, far a ats h.1)

-- what is to another filter is in another group
not_here : (g : Group) (f : Text) → same_text f g.filter ≡ false → (xs : List Subscription)
    → AllByRecursion (λ x. x.filter ≡ f) xs → filter (is_in_group g) xs ≡ []
not_here g f n [] h = refl
not_here g f n (x ∷ xs) h = grind (arith, not_here g f n xs h.1, and_right)

none_found : (g : Group) (ats : List Entry) → AllByRecursion AreHere ats
    → AllByRecursion (λ (b : Entry). same_text b.filter g.filter ≡ false) ats
    → filter (is_in_group g) (rows_found ats) ≡ []
none_found g [] h n = refl
none_found g (a ∷ ats) h n = grind (arith, none_found g ats h.1 n.1, filter-append, not_here)

flipped : (f : Text) (ats : List Entry)
    → AllByRecursion (λ (b : Entry). same_text f b.filter ≡ false) ats
    → AllByRecursion (λ (b : Entry). same_text b.filter f ≡ false) ats
flipped f [] h = tt
flipped f (a ∷ ats) h = (text_flip a.filter f ∙ h.0, flipped f ats h.1)

abbrev pairs : List Entry → Text → List Group
pairs ats share = map (λ (a : Entry). record { share = share; filter = a.filter }) ats

abbrev all_pairs : List Entry → List Text → List Group
all_pairs ats shares = flat_map (pairs ats) shares

sorted_pairs : (share : Text) (ats : List Entry)
    → IsStrictlySortedBy level_order (map (λ (a : Entry). levels a.filter) ats)
    → IsStrictlySortedBy group_cmp (pairs ats share)
unfolding IsStrictlySortedBy
sorted_pairs share [] s = tt
sorted_pairs share (a ∷ ats) s = (below ats s.0, sorted_pairs share ats s.1)
  where
    below : (bs : List Entry) → AllByRecursion (λ y. level_order (levels a.filter) y ≡ Less)
        (map (λ (b : Entry). levels b.filter) bs)
        → AllByRecursion (λ (k : Group). group_cmp (record { share = share; filter = a.filter }) k
        ≡ Less) (pairs bs share)
    below [] h = tt
    below (b ∷ bs) h = (
      ap (λ r. ordering_then r (level_order (levels a.filter) (levels b.filter)))
          (tied_itself nat_list_cmp_total share) ∙ h.0,
      below bs h.1,
    )

-- the groups of a lesser share name are before those of others
lesser : (g : Group) (ats : List Entry) (shares : List Text)
    → AllByRecursion (λ y. text_cmp g.share y ≡ Less) shares
    → AllByRecursion (λ (k : Group). group_cmp g k ≡ Less) (all_pairs ats shares)
lesser g ats [] h = tt
lesser g ats (share ∷ shares) h = all_append (λ (k : Group). group_cmp g k ≡ Less) (pairs ats share)
    (all_pairs ats shares) (here ats) (lesser g ats shares h.1)
  where
    here : (bs : List Entry) → AllByRecursion (λ (k : Group). group_cmp g k ≡ Less) (pairs bs share)
    here [] = tt
    here (b ∷ bs) =
        (ap (λ r. ordering_then r (level_order (levels g.filter) (levels b.filter))) h.0, here bs)

sorted_all : (ats : List Entry) (shares : List Text)
    → IsStrictlySortedBy level_order (map (λ (a : Entry). levels a.filter) ats)
    → IsStrictlySortedBy text_cmp shares → IsStrictlySortedBy group_cmp (all_pairs ats shares)
unfolding IsStrictlySortedBy
sorted_all ats [] s t = tt
sorted_all ats (share ∷ shares) s t =
    sorted-append group_cmp group_total (pairs ats share) (all_pairs ats shares)
    (sorted_pairs share ats s) (sorted_all ats shares s t.1) (before ats)
  where
    before : (bs : List Entry) → AllByRecursion
        (λ (g : Group). AllByRecursion (λ (k : Group). group_cmp g k ≡ Less) (all_pairs ats shares))
        (pairs bs share)
    before [] = tt
    before (b ∷ bs) =
        (lesser (record { share = share; filter = b.filter }) ats shares t.0, before bs)

-- a pair of a share name and a filter that are there
in_pairs : (g : Group) (ats : List Entry) (shares : List Text)
    → list_any (λ (a : Entry). same_text g.filter a.filter) ats ≡ true
    → list_any (is_text g.share) shares ≡ true
    → list_any (ties group_cmp group_total g) (all_pairs ats shares) ≡ true
in_pairs g ats [] h k = k
in_pairs g ats (share ∷ shares) h k =
    any-append (ties group_cmp group_total g) (pairs ats share) (all_pairs ats shares)
    ∙ pick (is_text g.share share)
    (λ t. ap (λ b. b || list_any (ties group_cmp group_total g) (all_pairs ats shares))
    (here (sym (is_text-is g.share share) ∙ t)))
    (λ f. ap (λ b. list_any (ties group_cmp group_total g) (pairs ats share) || b)
    (in_pairs g ats shares h (ap (λ b. b || list_any (is_text g.share) shares) (sym f) ∙ k))
    ∙ or-true (list_any (ties group_cmp group_total g) (pairs ats share)))
  where
    here : same_text g.share share ≡ true
        → list_any (ties group_cmp group_total g) (pairs ats share) ≡ true
    here t =
        list_any-map (λ (a : Entry). record { share = share; filter = a.filter })
        (ties group_cmp group_total g) ats
        ∙ list_any-same (λ (a : Entry). ties group_cmp group_total g
        (record { share = share; filter = a.filter }))
        (λ (a : Entry). same_text g.filter a.filter)
        (λ a. group_tie g (record { share = share; filter = a.filter })
        ∙ ap (λ b. b && same_text g.filter a.filter) t) ats ∙ h

some_gives : {Y : Type 0} (h : Group → Option Y) (g : Group) → is_some (h g) ≡ true
    → (xs : List Group) → list_any (ties group_cmp group_total g) xs ≡ true → filter_map h xs ≡ []
    → ⊥
some_gives h g e [] t none = true≢false (sym t)
some_gives h g e (x ∷ xs) t none =
    grind (arith, some_gives h g e xs, pick, ties, group_total, group_tied)

-- the filter of a group with a member is one of those that are found
member_found : (g : Group) (ats : List Entry) → AllByRecursion AreHere ats
    → list_any (is_in_group g) (rows_found ats) ≡ true
    → list_any (λ (a : Entry). same_text g.filter a.filter) ats ≡ true
member_found g [] h t = t
member_found g (a ∷ ats) h t =
    pick (same_text g.filter a.filter)
    (λ e. ap (λ b. b || list_any (λ (b : Entry). same_text g.filter b.filter) ats) e)
    (λ f. ap (λ b. same_text g.filter a.filter || b) (member_found g ats h.1
    (sym (any-append (is_in_group g) a.rows (rows_found ats)
    ∙ ap (λ b. b || list_any (is_in_group g) (rows_found ats))
    (any-from_filter (is_in_group g) a.rows []
    (not_here g a.filter (text_flip a.filter g.filter ∙ f) a.rows h.0))) ∙ t))
    ∙ or-true (same_text g.filter a.filter))

found_matches : (topic : Text) (g : Group) (ats : List Entry)
    → AllByRecursion (λ (a : Entry). filter_matches a.filter topic ≡ true) ats
    → list_any (λ (a : Entry). same_text g.filter a.filter) ats ≡ true
    → filter_matches g.filter topic ≡ true
found_matches topic g [] m t = absurd (true≢false (sym t))
found_matches topic g (a ∷ ats) m t =
    pick (same_text g.filter a.filter)
    (λ e. ap (λ (f : Text). filter_matches f topic) (same_text-is g.filter a.filter e) ∙ m.0)
    (λ f. found_matches topic g ats m.1
    (ap (λ b. b || list_any (λ (b : Entry). same_text g.filter b.filter) ats) (sym f) ∙ t))

some_member : (p q : Subscription → Bool) (xs : List Subscription)
    → is_some (find p (filter q xs)) ≡ true → list_any q xs ≡ true
some_member p q xs h = grind (arith, shown)

turns_of_each : (turns : List Turn) (T : Text → List Subscription)
    → ((share : Text) → turns_listed share turns ≡ T share) → (shares : List Text)
    → map turn_of (flat_map (λ share. filter (λ t. same_text (rc_str_bytes t.share) share) turns)
    shares) ≡ flat_map T shares
turns_of_each turns T h [] = refl
turns_of_each turns T h (share ∷ shares) = grind (arith, turns_of_each turns T h shares, map-append)

module _ (may : Subscription → Bool) where
  abbrev next_of : List Subscription → Group → Option Subscription
  next_of rows g = find may (filter (is_in_group g) rows)

  -- with others to another filter
  with_other : (share : Text) (a : Entry) (rest : List Subscription) → AreHere a
      → (ats : List Entry)
      → AllByRecursion (λ (b : Entry). same_text a.filter b.filter ≡ false) ats
      → filter_map (next_of rest) (pairs ats share)
      ≡ filter_map (next_of (a.rows ++ rest)) (pairs ats share)
  with_other share a rest h [] n = refl
  with_other share a rest h (b ∷ ats) n =
      let g : Group = record { share = share; filter = b.filter } in
      ap (λ o. cons_option o (filter_map (next_of rest) (pairs ats share)))
      (ap (find may) (sym (filter-append (is_in_group g) a.rows rest
      ∙ ap (λ l. l ++ filter (is_in_group g) rest) (not_here g a.filter n.0 a.rows h))))
      ∙ ap (cons_option (next_of (a.rows ++ rest) g)) (with_other share a rest h ats n.1)

  onto : (o : Option Subscription) (xs : List Subscription) → turns_of o ++ xs ≡ cons_option o xs
  onto None xs = refl
  onto (Some x) xs = refl

  turns_pairs : (share : Text) (ats : List Entry)
      → IsStrictlySortedBy level_order (map (λ (a : Entry). levels a.filter) ats)
      → AllByRecursion AreHere ats
      → flat_map (λ (a : Entry). turns_of
      (next_of a.rows (record { share = share; filter = a.filter }))) ats
      ≡ filter_map (next_of (rows_found ats)) (pairs ats share)
  unfolding IsStrictlySortedBy
  turns_pairs share [] s h = refl
  turns_pairs share (a ∷ ats) s h =
      let g : Group = record { share = share; filter = a.filter } in
      let apart : AllByRecursion (λ (b : Entry). same_text a.filter b.filter ≡ false) ats =
      far a ats s.0 in
      onto (next_of a.rows g)
      (flat_map (λ (b : Entry). turns_of
      (next_of b.rows (record { share = share; filter = b.filter }))) ats)
      ∙ ap (λ o. cons_option o
      (flat_map (λ (b : Entry). turns_of
      (next_of b.rows (record { share = share; filter = b.filter }))) ats))
      (ap (find may) (sym (filter-append (is_in_group g) a.rows (rows_found ats)
      ∙ ap (λ l. filter (is_in_group g) a.rows ++ l)
      (none_found g ats h.1 (flipped a.filter ats apart))
      ∙ append-nil (filter (is_in_group g) a.rows))))
      ∙ ap (cons_option (next_of (a.rows ++ rows_found ats) g))
      (turns_pairs share ats s.1 h.1 ∙ with_other share a (rows_found ats) h.0 ats apart)

pairs_apart : {Y : Type 0} (h : Group → Option Y) (ats : List Entry) (T : Text → List Y)
    → ((share : Text) → T share ≡ filter_map h (pairs ats share)) → (shares : List Text)
    → flat_map T shares ≡ filter_map h (all_pairs ats shares)
pairs_apart h ats T e [] = refl
pairs_apart h ats T e (share ∷ shares) =
    grind (arith, pairs_apart h ats T e shares, filter_map-append)

-- members gathered in the order of share names, for each the ones in turn at the filters
-- found, are those that the message serves
pub served-members : (access : Option AccessList) (sessions : List Session) (m : Message)
    (found : List Entry) (served : List Turn) → AreEntriesFor m.topic found
    → AreAscending (shares_of served)
    → ((share : Text) → turns_listed share served ≡ turns_at access sessions m.topic share found)
    → map turn_of served ≡ next_members access sessions (rows_found found) m
unfolding next_members
served-members access sessions m found served at up listed =
    let may : Subscription → Bool = λ x. is_reader access sessions m.topic x.client in
    let rows : List Subscription = rows_found found in
    let h : Group → Option Subscription = next_of may rows in
    let q : Group → Bool = λ group. filter_matches group.filter m.topic in
    let groups : List Group = groups_among rows in
    let shares : List Text = in_order text_cmp (shares_of served) in
    let sorted : IsStrictlySortedBy text_cmp shares =
    sorted-in_order text_cmp nat_list_cmp_total (shares_of served) in
    let T : Text → List Subscription = λ share. turns_at access sessions m.topic share found in
    let turns : (share : Text) → T share ≡ filter_map h (pairs found share) =
    λ share. turns_pairs may share found at.ordered at.here in
    ap (map turn_of) (sym (by_each_key (λ (t : Turn). rc_str_bytes t.share) served up))
    ∙ turns_of_each served T listed shares
    ∙ pairs_apart h found T turns shares
    ∙ same_gathered group_cmp group_total group_tied h (all_pairs found shares) (filter q groups)
    (sorted_all found shares at.ordered sorted)
    (IsStrictlySortedBy-filter group_cmp q groups (groups-sorted rows))
    (λ g e.
    let member : list_any (is_in_group g) rows ≡ true = some_member may (is_in_group g) rows e in
    let there : list_any (λ (a : Entry). same_text g.filter a.filter) found ≡ true =
    member_found g found at.here member in
    let shared : list_any (is_text g.share) shares ≡ true =
    pick (list_any (is_text g.share) shares) (λ t. t)
    (λ f. absurd (some_gives h g e (pairs found g.share)
    (sym (ap (list_any (ties group_cmp group_total g)) (append-nil (pairs found g.share)))
    ∙ in_pairs g found (g.share ∷ []) there
    (ap (λ b. b || false) (is_text-is g.share g.share ∙ same_text-itself g.share)))
    (sym (turns g.share) ∙ sym (listed g.share)
    ∙ ap (map turn_of) (none_there (λ (t : Turn). rc_str_bytes t.share) g.share served
    (sym (any-in_order text_cmp nat_list_cmp_total key_text g.share (shares_of served))
    ∙ f))))) in
    in_pairs g found shares there shared
    ∙ sym (any-filter group_cmp group_total group_tied q g groups
    ∙ ap (λ b. b && q g) (groups-any g rows ∙ member)
    ∙ found_matches m.topic g found at.match there))
