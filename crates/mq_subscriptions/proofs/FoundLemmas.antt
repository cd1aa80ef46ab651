-- What is found for a name, and what of it takes part, sorted by client.
use Rattle.std.proofs.Common.{◌≡◌, Bool, true, false, cond, List, [], ◌∷◌, map, refl, ap, Less}
use Rattle.std.proofs.Common.{filter, flat_map, ◌++◌, None, sym, ◌∙◌, subst, IsSortedBy, append-nil}
use Rattle.std.specs.List.{AllByRecursion}
use Rattle.std.specs.List.Sorted.{IsStrictlySortedBy, IsStableBy}
use Rattle.std.specs.Map.{keys_of, values_of}
use Rattle.std.proofs.lemmas.List.Elements.{filter-append}
use Rattle.mq_topic.specs.Levels.{levels, level_order}
use Rattle.mq_topic.specs.Matching.{matches}
use Rattle.mq_world.specs.Lists.{Text, same_text}
use Rattle.mq_world.specs.World.{Subscription, SubscriptionOptions, Message}
use Rattle.mq_world.specs.Copies.{filter_matches}
use Rattle.mq_world.proofs.BoolLemmas.{pick}
use Rattle.mq_subscriptions.specs.Filters.{Entry, Entries, AllEntries, AreEntriesFor, all_rows}
use Rattle.mq_subscriptions.specs.Filters.{Member, unshared_rows, group_rows, row, GroupList}
use Rattle.std.specs.Rc.{rc_str_bytes}
use Rattle.std.proofs.lemmas.Simd.{map-map}
use Rattle.mq_world.specs.Views.{options_of}
use Rattle.mq_subscriptions.specs.Matches.{is_unshared_match, unshared_matches, match_views}
use Rattle.mq_subscriptions.specs.Matches.{options_among, AreAscending, AreByClient}
use Rattle.mq_world.proofs.ListLemmas.{map-filter, filter-none}
use Rattle.mq_subscriptions.specs.declared.subscriptions.matches.Match.{Match}
use Rattle.mq_subscriptions.proofs.AscendingLemmas.{lt, ascending-sorted, stable-kept}
use Rattle.mq_subscriptions.proofs.EntryLemmas.{each_group}

abbrev pub found_for : Text → Entries → List Entry
found_for topic es = values_of (filter (λ e. matches e.0 (levels topic)) es)

-- subscriptions to one filter all match, or none does
all_alike : (topic f : Text) (b : Bool) (xs : List Subscription)
    → AllByRecursion (λ x. x.filter ≡ f) xs → filter_matches f topic ≡ b
    → filter (λ s. filter_matches s.filter topic) xs ≡ cond b xs []
all_alike topic f true [] h e = refl
all_alike topic f false [] h e = refl
all_alike topic f true (x ∷ xs) h e =
    let is : filter_matches x.filter topic ≡ true = rw h.0 e in
    rw is (ap (λ l. x ∷ l) (all_alike topic f true xs h.1 e))
all_alike topic f false (x ∷ xs) h e =
    let is : filter_matches x.filter topic ≡ false = rw h.0 e in
    rw is (all_alike topic f false xs h.1 e)

-- in a well-formed tree, what is found for a name has just the rows whose filters match it
pub found-rows : (topic : Text) (es : Entries) → AllEntries es
    → flat_map (λ (a : Entry). a.rows) (found_for topic es)
    ≡ filter (λ s. filter_matches s.filter topic) (all_rows es)
found-rows topic [] h = refl
found-rows topic (e ∷ es) h =
    let all = all_alike topic e.1.filter in
    rw (filter-append (λ s. filter_matches s.filter topic) e.1.rows (all_rows es))
    (pick (matches e.0 (levels topic))
    (λ t. rw (t, found-rows topic es h.1, all true e.1.rows h.0.here (rw h.0.key_is at t)))
    (λ n. rw (n, found-rows topic es h.1, all false e.1.rows h.0.here (rw h.0.key_is at n))))

above : (topic : Text) (k : List Text) (es : Entries) → AllEntries es
    → AllByRecursion (λ y. level_order k y ≡ Less) (keys_of es)
    → AllByRecursion (λ y. level_order k y ≡ Less) (map (λ a. levels a.filter) (found_for topic es))
above topic k [] h s = tt
above topic k (e ∷ es) h s =
    let rest = above topic k es h.1 s.1 in
    pick (matches e.0 (levels topic)) (λ t. rw t (rw (← h.0.key_is) s.0, rest)) (λ n. rw n rest)

-- what a tree in order has for a name is in level order, each to its filter, and all of it matches
pub found-order : (topic : Text) (es : Entries) → AllEntries es
    → IsStrictlySortedBy level_order (keys_of es) → AreEntriesFor topic (found_for topic es)
unfolding IsStrictlySortedBy
found-order topic [] h s = record { ordered = tt; here = tt; match = tt }
found-order topic (e ∷ es) h s =
    let rest = found-order topic es h.1 s.1 in
    pick (matches e.0 (levels topic)) (λ t. rw t (record {
      ordered = (rw (← h.0.key_is) (above topic e.0 es h.1 s.0), rest.ordered);
      here = (h.0.here, rest.here);
      match = (rw h.0.key_is at t, rest.match);
    }))
    (λ n. rw n rest)

-- ## What takes part

-- matches that are sorted by client id show clients in ascending order
pub sorted-matches : (ms : List Match)
    → IsSortedBy (lt (λ (x : Match). rc_str_bytes x.client.now)) ms → AreByClient (match_views ms)
sorted-matches ms s = subst AreAscending (sym (map-map (λ (x : Text × SubscriptionOptions). x.0)
    (λ (x : Match). (rc_str_bytes x.client.now, options_of x.options)) ms))
    (ascending-sorted (λ (x : Match). rc_str_bytes x.client.now) ms s)

-- a stable sort by client id keeps what each client's matches ask for, in their order
pub stable-matches : (xs ys : List Match)
    → IsStableBy (lt (λ (x : Match). rc_str_bytes x.client.now)) xs ys → (id : Text)
    → options_among id (match_views ys) ≡ options_among id (match_views xs)
stable-matches xs ys stable id =
    let pair : Match → Text × SubscriptionOptions =
    λ x. (rc_str_bytes x.client.now, options_of x.options) in
    ap (map (λ (x : Text × SubscriptionOptions). x.1))
    (sym (map-filter pair (λ x. same_text x.0 id) ys)
    ∙ ap (map pair) (stable-kept (λ (x : Match). rc_str_bytes x.client.now) xs ys stable id)
    ∙ map-filter pair (λ x. same_text x.0 id) xs)

-- the members of groups are no match in a client's own name
no_groups_match : (m : Message) (f : Text) (gs : GroupList)
    → filter (is_unshared_match m) (group_rows f gs) ≡ []
no_groups_match m f gs = filter-none (is_unshared_match m) (group_rows f gs)
    (each_group (λ s. is_unshared_match m s ≡ false) f (λ share x. refl) gs)

-- by whichever filter
by_any : (m : Message) (f : Text) (ms : List Member)
    → unshared_matches m (unshared_rows [] ms) ≡ unshared_matches m (unshared_rows f ms)
by_any m f [] = refl
by_any m f (x ∷ ms) =
    pick (is_unshared_match m (row None [] x)) (λ t. rw (t, by_any m f ms))
    (λ n. rw n (by_any m f ms))

-- of those at a filter, only own members take part in their own name, whichever filter it is
pub matches-at : (m : Message) (f : Text) (ds : List Member) (gs : GroupList)
    → unshared_matches m (unshared_rows [] ds)
    ≡ unshared_matches m (unshared_rows f ds ++ group_rows f gs)
matches-at m f ds gs =
    rw (filter-append (is_unshared_match m) (unshared_rows f ds) (group_rows f gs))
    (rw (no_groups_match m f gs, append-nil (filter (is_unshared_match m) (unshared_rows f ds)))
    (by_any m f ds))
