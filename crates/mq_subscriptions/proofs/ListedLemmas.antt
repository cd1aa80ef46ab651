-- What each client has, listed beside the tree.
use Rattle.std.proofs.Common.{◌≡◌, Bool, true, false, true≢false, cond, ◌&&◌, ◌||◌, not, List, []}
use Rattle.std.proofs.Common.{◌∷◌, Option, Some, None, is_some, refl, sym, ◌∙◌, ap, arith, filter}
use Rattle.std.specs.Cmp.{IsEquivalence, eq_by_cmp_equiv}
use Rattle.std.specs.Cmp.Lexicographic.{nat_list_cmp_total}
use Rattle.std.specs.Rc.{rc_str_bytes}
use Rattle.std.specs.Option.{option_map_or}
use Rattle.std.specs.List.Sorted.{IsStrictlySortedBy}
use Rattle.std.specs.Map.{lookup, set_value, remove_entry, keys_of}
use Rattle.std.specs.BTreeMap.{insert_entry}
use Rattle.mq_world.specs.Keys.{Key, key_cmp}
use Rattle.mq_world.specs.Lists.{Text, same_text, text_cmp}
use Rattle.mq_world.specs.World.{Subscription, same_share, has_key}
use Rattle.mq_subscriptions.specs.Filters.{FilterKey, FilterLists, is_text, has_filter_key}
use Rattle.mq_subscriptions.specs.Filters.{is_in_list, is_listed, is_empty}
use Rattle.mq_subscriptions.specs.SubFilters.{ListsMore, ListsLess, ListsOthers}
use Rattle.mq_subscriptions.specs.Views.{texts}
use Rattle.mq_world.proofs.ListLemmas.{filter-same}
use Rattle.mq_world.proofs.SameLemmas.{filter-filter}
use Rattle.mq_world.proofs.TextKeys.{finds}
use Rattle.mq_world.proofs.BoolLemmas.{pick}
use Rattle.mq_subscriptions.proofs.TextMaps.{is_text-is, lookup-texts, set_value-texts, key_text}
use Rattle.mq_subscriptions.proofs.TextMaps.{remove_entry-texts, ordered-texts, removed-set}
use Rattle.mq_world.proofs.Splits.{Put, put_gap, lookup-more, lookup-at}
use Rattle.mq_world.proofs.OrderLemmas.{same_text-itself, text_flip}
use Rattle.mq_subscriptions.proofs.EntryLemmas.{keyed, empty_is}
use Rattle.mq_subscriptions.proofs.InTurn.{key_parts, same_share-itself}
use Rattle.std.proofs.lemmas.Map.{lookup-set_value, lookup-remove_entry}
use Rattle.std.proofs.lemmas.Map.Keys.{IsDistinct-from_sorted}
use Rattle.std.proofs.Math.Bool.{and_assoc, and-true}

-- ## Taking out what is listed

abbrev pub leaves : Text → List FilterKey → Subscription → Bool
leaves c list s = not (same_text s.client c && is_in_list list s)

-- where the list of what leaves is empty, all rows stay
pub none-leave : (c : Text) (rows : List Subscription) → filter (leaves c []) rows ≡ rows
none-leave c [] = refl
none-leave c (s ∷ rows) =
    pick (same_text s.client c) (λ t. rw (t, none-leave c rows)) (λ n. rw (n, none-leave c rows))

one_more : (c l h f : Bool) → (not (c && h && f) && not (c && l)) ≡ not (c && ((h && f) || l))
one_more c l h f = grind arith

-- to take out one key and then what a list has is to take out what the list with that key has
pub one-leaves : (c : Text) (k : FilterKey) (list : List FilterKey) (rows : List Subscription)
    → filter (leaves c list) (filter (λ s. not (has_key c k.0 k.1 s)) rows)
    ≡ filter (leaves c (k ∷ list)) rows
one-leaves c k list rows =
    filter-filter (leaves c list) (λ s. not (has_key c k.0 k.1 s)) rows
    ∙ filter-same (λ s. not (has_key c k.0 k.1 s) && leaves c list s) (leaves c (k ∷ list))
    (λ s. one_more (same_text s.client c) (is_in_list list s) (same_share s.share k.0)
    (same_text s.filter k.1)) rows

-- ## The list of a client becomes another

abbrev pub found_in : Subscription → Option (List FilterKey) → Bool
found_in s o = option_map_or (λ list. is_in_list list s) o false

-- the client's list becomes this one, or none, and those of others stay
abbrev Becomes : Text → Option (List FilterKey) → FilterLists → FilterLists → Type 0
Becomes bs o old new =
    (c : Text) → lookup (is_text c) new ≡ cond (is_text bs c) o (lookup (is_text c) old)

text_equiv : IsEquivalence is_text
text_equiv = eq_by_cmp_equiv nat_list_cmp_total

-- what is the same as a text passes the same tests
alike : (bs x y : Text) → is_text bs x ≡ true → is_text bs y ≡ is_text x y
alike bs x y h = ap (λ (t : Text). is_text t y) (key_text bs x h)

module _ (bs : Text) (ls new : List (Key × List FilterKey)) where
  becomes-set : (v w : List FilterKey) → lookup (finds bs) ls ≡ Some v
      → new ≡ set_value (finds bs) ls w → Becomes bs (Some w) (texts ls) (texts new)
  becomes-set v w found set c =
      rw (set, set_value-texts bs ls w)
      (lookup-set_value text_equiv (is_text bs) (alike bs) c w (texts ls)
      (ap is_some (lookup-texts bs ls ∙ found)))

  becomes-out : IsStrictlySortedBy key_cmp (keys_of ls) → new ≡ remove_entry (finds bs) ls
      → Becomes bs None (texts ls) (texts new)
  becomes-out sorted gone c =
      rw (gone, remove_entry-texts bs ls)
      (lookup-remove_entry text_equiv (is_text bs) (alike bs) c (texts ls)
      (IsDistinct-from_sorted text_cmp (keys_of (texts ls)) (ordered-texts ls sorted)))

  becomes-begun : (name : Key) (w : List FilterKey) → rc_str_bytes name ≡ bs
      → lookup (is_text bs) (texts ls) ≡ None → new ≡ insert_entry key_cmp ls name w
      → Becomes bs (Some w) (texts ls) (texts new)
  becomes-begun name w named none put c =
      let finds_none : lookup (finds (rc_str_bytes name)) ls ≡ None =
      rw named (sym (lookup-texts bs ls) ∙ none) in
      let gap : Put key_cmp name ls = put_gap key_cmp name ls finds_none in
      let front = gap.gap.front in
      let back = gap.gap.back in
      rw (← named, lookup-texts c new, lookup-texts c ls) (ap (lookup (finds c)) (put ∙ gap.put w)
      ∙ pick (is_text (rc_str_bytes name) c) (λ t. rw (t, ← key_text (rc_str_bytes name) c t)
      (lookup-at (finds (rc_str_bytes name)) front back name w gap.gap.before
      (text_equiv.refl (rc_str_bytes name))))
      (λ n. rw n (lookup-more (finds c) front back name w
      (text_equiv.symm c (rc_str_bytes name) ∙ n) ∙ ap (lookup (finds c)) (sym gap.gap.is))))

-- ## A key joins and leaves

module _ (bs : Text) (u o : Option (List FilterKey)) (old new : FilterLists)
    (was : lookup (is_text bs) old ≡ u) (becomes : Becomes bs o old new) where
  -- what changes in the client's list changes in what is listed
  changed : (f : Bool → Bool → Bool) (own : Subscription → Bool) → ((b : Bool) → f false b ≡ b)
      → ((s : Subscription) → found_in s o ≡ f (own s) (found_in s u)) → (s : Subscription)
      → is_listed new s ≡ f (same_text s.client bs && own s) (is_listed old s)
  changed f own keeps here s =
      rw (← text_flip bs s.client, ← is_text-is bs s.client, becomes s.client)
      (pick (is_text bs s.client)
      (λ t. (let found : lookup (is_text s.client) old ≡ u = rw (← key_text bs s.client t) was in
      rw (t, found) (here s)))
      (λ n. rw n (sym (keeps (is_listed old s)))))

  module _ (k : FilterKey) where
    key_by : (s : Subscription) → (same_text s.client bs && has_filter_key s k)
        ≡ has_key bs k.0 k.1 s
    key_by s = sym (and_assoc (same_text s.client bs) (same_share s.share k.0)
        (same_text s.filter k.1))

    more : ((s : Subscription) → found_in s o ≡ (has_filter_key s k || found_in s u))
        → ListsMore bs k old new
    more adds s = changed (λ a b. a || b) (λ r. has_filter_key r k) (λ b. refl) adds s
        ∙ ap (λ b. b || is_listed old s) (key_by s)

    less : ((s : Subscription) → found_in s o ≡ (not (has_filter_key s k) && found_in s u))
        → ListsLess bs k old new
    less drops s = changed (λ a b. not a && b) (λ r. has_filter_key r k) (λ b. refl) drops s
        ∙ ap (λ b. not b && is_listed old s) (key_by s)

-- a list has a key and what another has, or all of it but the key
abbrev pub Adds : FilterKey → List FilterKey → List FilterKey → Type 0
Adds k v w = (s : Subscription) → is_in_list w s ≡ (has_filter_key s k || is_in_list v s)

abbrev pub Drops : FilterKey → List FilterKey → List FilterKey → Type 0
Drops k v w = (s : Subscription) → is_in_list w s ≡ (not (has_filter_key s k) && is_in_list v s)

module _ (bs : Text) (k : FilterKey) (ls : List (Key × List FilterKey)) (v w : List FilterKey)
    (new : List (Key × List FilterKey)) (found : lookup (finds bs) ls ≡ Some v)
    (set : new ≡ set_value (finds bs) ls w) where
  pub added-there : Adds k v w → ListsMore bs k (texts ls) (texts new)
  added-there adds = more bs (Some v) (Some w) (texts ls) (texts new) (lookup-texts bs ls ∙ found)
      (becomes-set bs ls new v w found set) k adds

  pub dropped-there : Drops k v w → ListsLess bs k (texts ls) (texts new)
  dropped-there drops = less bs (Some v) (Some w) (texts ls) (texts new)
      (lookup-texts bs ls ∙ found) (becomes-set bs ls new v w found set) k drops

  pub dropped-last : IsStrictlySortedBy key_cmp (keys_of ls) → (out : List (Key × List FilterKey))
      → out ≡ remove_entry (finds bs) new → is_empty w ≡ true → Drops k v w
      → ListsLess bs k (texts ls) (texts out)
  dropped-last sorted out gone bare drops =
      less bs (Some v) None (texts ls) (texts out) (lookup-texts bs ls ∙ found)
      (becomes-out bs ls out sorted
      (gone ∙ ap (remove_entry (finds bs)) set ∙ removed-set (finds bs) ls w)) k
      (λ s. ap (λ l. is_in_list l s) (sym (empty_is w bare)) ∙ drops s)

-- a client without a list gets one of a single key: listed then is that key, and what was
pub added-first : (bs : Text) (k : FilterKey) (ls : List (Key × List FilterKey)) (name : Key)
    → rc_str_bytes name ≡ bs → lookup (is_text bs) (texts ls) ≡ None
    → (w : List FilterKey) (new : List (Key × List FilterKey))
    → new ≡ insert_entry key_cmp ls name w → Adds k [] w → ListsMore bs k (texts ls) (texts new)
added-first bs k ls name named none w new put adds =
    more bs None (Some w) (texts ls) (texts new) none
    (becomes-begun bs ls new name w named none put) k adds

-- of lists in order one was taken out, if it was there
pub others-there : (bs : Text) (ls : List (Key × List FilterKey))
    → IsStrictlySortedBy key_cmp (keys_of ls) → (out : List (Key × List FilterKey))
    → out ≡ remove_entry (finds bs) ls → ListsOthers bs (texts ls) (texts out)
others-there bs ls sorted out gone s =
    changed bs (lookup (is_text bs) (texts ls)) None (texts ls) (texts out) refl
    (becomes-out bs ls out sorted gone) (λ a b. not a && b) (λ r. true) (λ b. refl) (λ r. refl) s
    ∙ ap (λ b. not b && is_listed (texts ls) s) (and-true (same_text s.client bs))

-- where the client has nothing, it has no such key
pub dropped-absent : (bs : Text) (k : FilterKey) (ls : List (Key × List FilterKey))
    → lookup (finds bs) ls ≡ None → ListsLess bs k (texts ls) (texts ls)
dropped-absent bs k ls none s =
    pick (has_key bs k.0 k.1 s)
    (λ t. rw (t, (key_parts bs k.0 k.1 s t).0, lookup-texts bs ls, none)) (λ n. rw n)

-- a list with a key is not empty
pub added-live : (k : FilterKey) (v w : List FilterKey) → Adds k v w → is_empty w ≡ false
added-live k v [] adds =
    absurd (true≢false
    (sym (rw (same_share-itself k.0, same_text-itself k.1) at (adds (keyed [] k.0 k.1)))))
added-live k v (x ∷ w) adds = refl
