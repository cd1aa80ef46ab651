-- The groups that have members, and who is served in each.
use Rattle.std.proofs.Common.{◌≡◌, Bool, true, false, cond, not, ◌&&◌, ◌||◌, List, [], ◌∷◌, map, ap}
use Rattle.std.proofs.Common.{Option, Some, None, refl, sym, ◌∙◌, arith}
use Rattle.std.specs.Ordering.{is_eq}
use Rattle.std.specs.Option.{option_map, option_map_or}
use Rattle.std.specs.List.{filter, filter_map, cons_option, list_any}
use Rattle.std.specs.List.Sorted.{IsStrictlySortedBy}
use Rattle.std.proofs.lemmas.Map.Text.{is_eq-slice_cmp}
use Rattle.std.proofs.lemmas.Bool.{and_parts}
use Rattle.mq_acl.specs.AccessLists.{AccessList}
use Rattle.mq_world.specs.Lists.{Text, same_text, in_order}
use Rattle.mq_world.specs.World.{Session, Row, Subscription, Group, Message, group_cmp, group_of}
use Rattle.mq_world.specs.World.{is_in_group, same_share}
use Rattle.mq_subscriptions.specs.Turns.{groups_among, next_members}
use Rattle.mq_world.specs.Copies.{filter_matches}
use Rattle.mq_subscriptions.specs.Filters.{is_empty}
use Rattle.mq_world.specs.Groups.{groups_of}
use Rattle.mq_world.proofs.ListLemmas.{filter_map-map}
use Rattle.mq_world.proofs.OrderLemmas.{group_total, level_equal, text_flip, same_text-is}
use Rattle.mq_world.proofs.SortedLemmas.{sorted-in_order, any-in_order, ties, same_filtered}
use Rattle.mq_world.proofs.BoolLemmas.{pick}

-- ## Groups in order

-- groups tie in their order where their share names and their filters are the same
pub group_tie : (g k : Group) → is_eq (group_cmp g k)
    ≡ (same_text g.share k.share && same_text g.filter k.filter)
group_tie g k = grind (arith, is_eq-slice_cmp, level_equal)

-- groups that tie are the same
pub group_tied : (g k : Group) → is_eq (group_cmp g k) ≡ true → g ≡ k
group_tied g k h =
    let both : (same_text g.share k.share && same_text g.filter k.filter) ≡ true =
    sym (group_tie g k) ∙ h in
    let share : g.share ≡ k.share = same_text-is g.share k.share (and_parts _ _ both).0 in
    let f : g.filter ≡ k.filter = same_text-is g.filter k.filter
    (and_parts (same_text g.share k.share) _ both).1 in
    λ i. record { share = share i; filter = f i }

-- ## The groups that have members

-- the groups of subscriptions stand in order, none of them twice
pub groups-sorted : (xs : List Subscription) → IsStrictlySortedBy group_cmp (groups_among xs)
unfolding groups_among
groups-sorted xs = sorted-in_order group_cmp group_total (filter_map group_of xs)

-- the groups of rows stand in order, none of them twice
pub groups_of-sorted : (rows : List Row) → IsStrictlySortedBy group_cmp (groups_of rows)
unfolding groups_of
groups_of-sorted rows = sorted-in_order group_cmp group_total
    (filter_map (λ (r : Row). group_of r.subscription) rows)

-- the groups of rows are those of their subscriptions
pub groups-shown : (rows : List Row) → groups_among (map (λ (r : Row). r.subscription) rows)
    ≡ groups_of rows
unfolding groups_among groups_of
groups-shown rows = ap (in_order group_cmp)
    (filter_map-map group_of (λ (r : Row). r.subscription) rows)

-- the group of a subscription is the one that it is in
one_group : (g : Group) (x : Subscription)
    → option_map_or (ties group_cmp group_total g) (group_of x) false ≡ is_in_group g x
one_group g x = go x.share
  where
    go : (share : Option Text) → option_map_or (ties group_cmp group_total g)
        (option_map (λ s. record { share = s; filter = x.filter }) share) false
        ≡ (same_share share (Some g.share) && same_text x.filter g.filter)
    go None = refl
    go (Some s) = group_tie g (record { share = s; filter = x.filter })
        ∙ ap (λ b. b && same_text g.filter x.filter) (text_flip g.share s)
        ∙ ap (λ b. same_text s g.share && b) (text_flip g.filter x.filter)

any_groups : (g : Group) (xs : List Subscription)
    → list_any (ties group_cmp group_total g) (filter_map group_of xs) ≡ list_any (is_in_group g) xs
any_groups g [] = refl
any_groups g (x ∷ xs) =
    split_option (group_of x)
    ∙ ap (λ b. b || list_any (ties group_cmp group_total g) (filter_map group_of xs))
    (one_group g x) ∙ ap (λ b. is_in_group g x || b) (any_groups g xs)
  where
    split_option : (k : Option Group)
        → list_any (ties group_cmp group_total g) (cons_option k (filter_map group_of xs))
        ≡ (option_map_or (ties group_cmp group_total g) k false
        || list_any (ties group_cmp group_total g) (filter_map group_of xs))
    split_option None = refl
    split_option (Some k) = refl

-- a group is there where it has a member
pub groups-any : (g : Group) (xs : List Subscription)
    → list_any (ties group_cmp group_total g) (groups_among xs) ≡ list_any (is_in_group g) xs
unfolding groups_among
groups-any g xs = any-in_order group_cmp group_total group_tied g (filter_map group_of xs)
    ∙ any_groups g xs

-- the same groups pass, if each one that passes has members in both lists or in neither
pub groups-same : (q : Group → Bool) (xs ys : List Subscription)
    → ((g : Group) → q g ≡ true → list_any (is_in_group g) xs ≡ list_any (is_in_group g) ys)
    → filter q (groups_among xs) ≡ filter q (groups_among ys)
groups-same q xs ys h =
    grind (arith, same_filtered, group_total, group_tied, groups-sorted, groups-any)

-- ## Those that are found for a name

abbrev matching : Text → Subscription → Bool
matching topic x = filter_matches x.filter topic

-- a member of a group that matches is among the subscriptions that match
in_matching : (topic : Text) (g : Group) → filter_matches g.filter topic ≡ true
    → (xs : List Subscription) → filter (is_in_group g) (filter (matching topic) xs)
    ≡ filter (is_in_group g) xs
in_matching topic g m [] = refl
in_matching topic g m (x ∷ xs) =
    let rest : List Subscription = filter (matching topic) xs in
    pick (is_in_group g x)
    (λ t. (let here : matching topic x ≡ true =
    ap (λ (f : Text). filter_matches f topic)
    (same_text-is x.filter g.filter
    (and_parts (same_share x.share (Some g.share)) (same_text x.filter g.filter) t).1)
    ∙ m in
    ap (λ b. filter (is_in_group g) (cond b (x ∷ rest) rest)) here
    ∙ ap (λ l. cond (is_in_group g x) (x ∷ l) l) (in_matching topic g m xs)))
    (λ f. (elim (matching topic x) as (λ b. filter (is_in_group g) (cond b (x ∷ rest) rest)
    ≡ filter (is_in_group g) rest) [
      | true ↦ ap (λ b. cond b (x ∷ filter (is_in_group g) rest) (filter (is_in_group g) rest)) f
      | false ↦ refl
    ])
    ∙ in_matching topic g m xs
    ∙ sym (ap (λ b. cond b (x ∷ filter (is_in_group g) xs) (filter (is_in_group g) xs)) f))

-- some element passes where the list of those that pass isn't empty, and only there
pub shown : {X : Type 0} (p : X → Bool) (zs : List X) → list_any p zs ≡ not (is_empty (filter p zs))
shown p [] = refl
shown p (z ∷ zs) = grind (arith, shown p zs)

-- if the same elements pass in both lists, some pass in both or in neither
pub any-from_filter : {X : Type 0} (p : X → Bool) (xs ys : List X) → filter p xs ≡ filter p ys
    → list_any p xs ≡ list_any p ys
any-from_filter p xs ys e = shown p xs ∙ ap (λ l. not (is_empty l)) e ∙ sym (shown p ys)

filter_map-alike : {X Y : Type 0} (h k : X → Option Y) (q : X → Bool)
    → ((x : X) → q x ≡ true → h x ≡ k x) → (xs : List X)
    → filter_map h (filter q xs) ≡ filter_map k (filter q xs)
filter_map-alike h k q e [] = refl
filter_map-alike {X} h k q e (x ∷ xs) = grind (arith, filter_map-alike h k q e xs, pick)

-- those that match are enough
pub members-matching : (access : Option AccessList) (sessions : List Session)
    (xs : List Subscription) (m : Message)
    → next_members access sessions (filter (matching m.topic) xs) m
    ≡ next_members access sessions xs m
unfolding next_members
members-matching access sessions xs m =
    grind (arith, filter_map-alike, in_matching, groups-same, any-from_filter)
