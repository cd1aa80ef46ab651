-- Whether a key is there after a subscription joined or left: the lists of clients still say so.
use Rattle.std.proofs.Common.{◌≡◌, Bool, true, false, true≢false, ◌&&◌, ◌||◌, not, List, [], ◌∷◌}
use Rattle.std.proofs.Common.{map, Option, Some, None, if◌then◌else◌, refl, sym, ◌∙◌, ap, arith}
use Rattle.std.proofs.Common.{filter}
use Rattle.std.specs.List.{list_any, AllByRecursion}
use Rattle.std.proofs.lemmas.Map.Views.{any-filter_same}
use Rattle.mq_world.specs.Lists.{Text, same_text}
use Rattle.mq_world.specs.World.{Subscription, same_share, has_key, same_key}
use Rattle.mq_world.specs.Turns.{SameInTurn}
use Rattle.mq_subscriptions.specs.Turns.{put_last, upsert}
use Rattle.mq_subscriptions.specs.Filters.{FilterKey, FilterLists, Entries, AreEntries, AreListed}
use Rattle.mq_subscriptions.specs.Filters.{is_text, is_in_list, is_listed, all_rows}
use Rattle.mq_subscriptions.specs.SubFilters.{ListsMore, ListsLess, ListsOthers}
use Rattle.mq_world.proofs.ListLemmas.{list_any-map, list_any-same, any-append, filter-kept}
use Rattle.mq_world.proofs.SameLemmas.{list_any-SameElements}
use Rattle.mq_world.proofs.BoolLemmas.{pick}
use Rattle.mq_world.proofs.OrderLemmas.{same_text-is, text_flip, all_weaker}
use Rattle.mq_subscriptions.proofs.ClientFilterLemmas.{flip_share}
use Rattle.mq_subscriptions.proofs.OneServed.{turned-elements}
use Rattle.mq_subscriptions.proofs.InTurn.{own_key_is, key_parts}
use Rattle.mq_subscriptions.proofs.ListedLemmas.{leaves}
use Rattle.std.specs.Map.{lookup}
use Rattle.std.proofs.lemmas.Bool.{or_left, or_right, false_from_ne_true}
use Rattle.std.proofs.Math.Bool.{or-false}

-- ## One key

key_flip : (a b : Subscription) → same_key a b ≡ same_key b a
key_flip a b = λ i. text_flip b.client a.client i && flip_share b.share a.share i
    && text_flip b.filter a.filter i

-- what has the same key passes the same tests of keys
key_then : (test : Text → Option Text → Text → Bool) (s x : Subscription) → same_key s x ≡ true
    → test x.client x.share x.filter ≡ test s.client s.share s.filter
key_then test s x h =
    let parts = key_parts s.client s.share s.filter x h in
    rw (parts.0, parts.1, parts.2)

-- ## One that joins

module _ (x s : Subscription) where
  -- what takes the place of one has its key
  pub key_placed : (y : Subscription)
      → same_key s (if same_key x y then x else y) ≡ same_key s y
  key_placed y =
      pick (same_key x y)
      (λ t. rw t (sym (key_then (λ c sh f. same_text c s.client && same_share sh s.share
      && same_text f s.filter) x y t)))
      (λ n. rw n)

  placed : (rows : List Subscription)
      → list_any (same_key s) (map (λ y. if same_key x y then x else y) rows)
      ≡ list_any (same_key s) rows
  placed rows =
      list_any-map (λ (y : Subscription). if same_key x y then x else y) (same_key s) rows
      ∙ list_any-same (λ y. same_key s (if same_key x y then x else y)) (same_key s) key_placed rows

  -- a key that is there is found by each with the same
  pub there : (rows : List Subscription) → same_key x s ≡ true
      → list_any (same_key x) rows ≡ list_any (same_key s) rows
  there rows h = list_any-same (same_key x) (same_key s)
      (λ y. sym (key_then (λ c sh f. same_text y.client c && same_share y.share sh
      && same_text y.filter f) x s h)) rows

  both : (u v w : Bool) → (w ≡ true → u ≡ v) → (v || (if u then false else w)) ≡ (w || v)
  both u v w h = grind arith

  pub any-joined : (new rows : List Subscription) → SameInTurn new (upsert x rows)
      → list_any (same_key s) new ≡ (same_key x s || list_any (same_key s) rows)
  any-joined new rows same =
      let old : List Subscription = map (λ y. if same_key x y then x else y) rows in
      rw (list_any-SameElements (same_key s) new (upsert x rows) same.elements)
      (rw (any-append (same_key s) old (if list_any (same_key x) rows then [] else x ∷ []))
      (rw (placed rows, last (list_any (same_key x) rows))
      (both (list_any (same_key x) rows) (list_any (same_key s) rows) (same_key x s) (there rows))))
    where
      last : (b : Bool) → list_any (same_key s) (if b then [] else x ∷ [])
          ≡ (if b then false else same_key x s)
      last true = refl
      last false = or-false (same_key s x) ∙ key_flip s x

-- ## Some that leave

-- once those that pass a test of keys are out, a key is there if it was and doesn't pass the test
pub any-left : (test : Text → Option Text → Text → Bool) (s : Subscription)
    (rows : List Subscription) → list_any (same_key s)
    (filter (λ r. not (test r.client r.share r.filter)) rows)
    ≡ (not (test s.client s.share s.filter) && list_any (same_key s) rows)
any-left test s rows =
    any-filter_same (same_key s) (λ (r : Subscription). not (test r.client r.share r.filter))
    (not (test s.client s.share s.filter)) (λ r h. ap not (key_then test s r h)) rows

-- ## Tree and lists

-- a subscription joins both the tree and the lists: they agree again
pub listed-joined : (x : Subscription) (old new : Entries) (before after : FilterLists)
    → AreListed old before → AreEntries new → SameInTurn (all_rows new) (upsert x (all_rows old))
    → ListsMore x.client (x.share, x.filter) before after → AreListed new after
listed-joined x old new before after h kept same adds = record {
  kept = kept;
  listed = λ s. rw (any-joined x s (all_rows new) (all_rows old) same, ← h.listed s) (adds s);
}

-- a key that is there joins again
pub listed-again : (x : Subscription) (old : Entries) (lists : FilterLists)
    → AreListed old lists → list_any (same_key x) (all_rows old) ≡ true
    → ListsMore x.client (x.share, x.filter) lists lists
listed-again x old lists h found s =
    pick (same_key x s) (λ t. rw t (h.listed s ∙ sym (there x s (all_rows old) t) ∙ found))
    (λ n. rw n)

-- a key leaves both the tree and the lists: they agree again
pub listed-left : (client : Text) (k : FilterKey) (old new : Entries)
    (before after : FilterLists) → AreListed old before → AreEntries new
    → all_rows new ≡ filter (λ s. not (has_key client k.0 k.1 s)) (all_rows old)
    → ListsLess client k before after → AreListed new after
listed-left client k old new before after h kept rows drops = record {
  kept = kept;
  listed = λ s. rw (rows)
      (rw (any-left (λ c sh f. same_text c client && same_share sh k.0 && same_text f k.1) s
      (all_rows old)) (rw (← h.listed s) (drops s)));
}

-- a key that the tree doesn't have joined the lists, and left them again: where the tree stayed as
-- it was meanwhile, it agrees with the lists again
pub listed-undone : (client : Text) (k : FilterKey) (old new : Entries)
    (before added after : FilterLists) → AreListed old before → new ≡ old
    → list_any (has_key client k.0 k.1) (all_rows old) ≡ false → ListsMore client k before added
    → ListsLess client k added after → AreListed new after
listed-undone client k old new before added after h same absent adds drops = rw same (record {
  kept = h.kept;
  listed = λ s. rw (drops s, adds s) (pick (has_key client k.0 k.1 s)
      (λ t. (let parts = key_parts client k.0 k.1 s t in
      rw (t, parts.0, parts.1, parts.2) (sym absent)))
      (λ n. rw n (h.listed s)));
})

-- where a subscription goes last in the tree, which stays well formed, the lists agree as they were
pub listed-turned : (x : Subscription) (old new : Entries) (lists : FilterLists)
    → AreListed old lists → AreEntries new
    → SameInTurn (all_rows new) (put_last (same_key x) (all_rows old)) → AreListed new lists
listed-turned x old new lists h kept same = record {
  kept = kept;
  listed = λ s. h.listed s ∙ sym (list_any-SameElements (same_key s) (all_rows new) (all_rows old)
      (λ p. same.elements p ∙ turned-elements (x ∷ []) (all_rows old) p));
}

-- ## A client's session ends

each_there : (rows : List Subscription)
    → AllByRecursion (λ s. list_any (same_key s) rows ≡ true) rows
each_there [] = tt
each_there (x ∷ rows) =
    let rest = all_weaker (λ (s : Subscription). list_any (same_key s) rows ≡ true)
    (λ s. list_any (same_key s) (x ∷ rows) ≡ true) (λ s h. or_right _ _ h) rows (each_there rows) in
    (or_left _ _ (own_key_is x), rest)

each_listed : (old : Entries) (lists : FilterLists) → AreListed old lists
    → AllByRecursion (λ s. is_listed lists s ≡ true) (all_rows old)
each_listed old lists h =
    all_weaker (λ (s : Subscription). list_any (same_key s) (all_rows old) ≡ true)
    (λ s. is_listed lists s ≡ true) (λ s e. h.listed s ∙ e) (all_rows old)
    (each_there (all_rows old))

leaving : (c : Text) (lists : FilterLists) (v : List FilterKey) (rows : List Subscription)
    → lookup (is_text c) lists ≡ Some v → AllByRecursion (λ s. is_listed lists s ≡ true) rows
    → filter (leaves c v) rows ≡ filter (λ s. not (same_text s.client c)) rows
leaving c lists v [] found h = refl
leaving c lists v (s ∷ rows) found h =
    let rest = leaving c lists v rows found h.1 in
    pick (same_text s.client c)
    (λ t. (let own : is_in_list v s ≡ true = rw (same_text-is s.client c t, found) at h.0 in
    rw (t, own, rest)))
    (λ n. rw (n, rest))

-- where tree and lists agree, what is in a client's list is all that the client has
pub all-leave : (c : Text) (lists : FilterLists) (v : List FilterKey) (old : Entries)
    → lookup (is_text c) lists ≡ Some v → AreListed old lists
    → filter (leaves c v) (all_rows old) ≡ filter (λ s. not (same_text s.client c)) (all_rows old)
all-leave c lists v old found h = leaving c lists v (all_rows old) found (each_listed old lists h)

-- where the client has no list, it has nothing
pub none-had : (c : Text) (lists : FilterLists) (old : Entries)
    → lookup (is_text c) lists ≡ None → AreListed old lists
    → all_rows old ≡ filter (λ s. not (same_text s.client c)) (all_rows old)
none-had c lists old none h =
    sym (filter-kept (λ (s : Subscription). same_text s.client c) (all_rows old)
    (all_weaker (λ (s : Subscription). is_listed lists s ≡ true) (λ s. same_text s.client c ≡ false)
    (λ s e. false_from_ne_true (same_text s.client c) (λ t. true≢false
    (sym (rw (same_text-is s.client c t, none) at e)))) (all_rows old) (each_listed old lists h)))

-- a client's list goes, and all its subscriptions leave the tree: the two agree again
pub listed-gone : (c : Text) (old new : Entries) (before after : FilterLists)
    → AreListed old before → AreEntries new
    → all_rows new ≡ filter (λ s. not (same_text s.client c)) (all_rows old)
    → ListsOthers c before after → AreListed new after
listed-gone c old new before after h kept rows others = record {
  kept = kept;
  listed = λ s. rw (rows, any-left (λ k sh f. same_text k c) s (all_rows old), ← h.listed s)
      (others s);
}
