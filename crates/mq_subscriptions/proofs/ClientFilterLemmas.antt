-- A client's own subscriptions: one that joins, and one that leaves.
use Rattle.std.proofs.Common.{◌≡◌, Bool, true, ◌&&◌, ◌||◌, not, List, [], ◌∷◌, map, Option, refl}
use Rattle.std.proofs.Common.{sym, ◌∙◌, ap, is_eq, filter}
use Rattle.std.specs.Rc.{rc_str_bytes}
use Rattle.std.specs.BTreeSet.{insert_key}
use Rattle.std.specs.Set.{remove_key}
use Rattle.std.specs.List.{list_any, AllByRecursion}
use Rattle.std.specs.List.Sorted.{IsStrictlySortedBy}
use Rattle.std.proofs.lemmas.Bool.{and_parts, and_right}
use Rattle.std.specs.Cmp.{both_ways}
use Rattle.mq_topic.proofs.BoolLemmas.{or_swapped}
use Rattle.mq_topic.specs.Texts.{is_subscription}
use Rattle.mq_topic.proofs.PartLemmas.{same_parts}
use Rattle.mq_world.specs.Keys.{Key, key_cmp}
use Rattle.mq_world.specs.Lists.{Text, same_text}
use Rattle.mq_world.specs.World.{Subscription, same_share}
use Rattle.mq_subscriptions.specs.Filters.{FilterKey, text_key, is_text, has_filter_key, is_in_list}
use Rattle.mq_subscriptions.specs.ClientViews.{key_in, IsAsked}
use Rattle.mq_world.proofs.ListLemmas.{list_any-map, remove_key-filter}
use Rattle.mq_subscriptions.proofs.TextMaps.{key_text, text-apart, is_text-is}
use Rattle.mq_world.proofs.OrderLemmas.{same_share-is, same_text-is, same_text-itself}
use Rattle.mq_world.proofs.BoolLemmas.{or_again, pick}
use Rattle.mq_subscriptions.proofs.Outcomes.{pick_order}
use Rattle.mq_subscriptions.proofs.InTurn.{same_share-itself}

-- whether share names, or none, are the same doesn't depend on which one comes first
pub flip_share : (a b : Option Text) → same_share a b ≡ same_share b a
flip_share a b = both_ways (same_share a b) (same_share b a)
    (λ t. rw (same_share-is a b t) (same_share-itself b))
    (λ t. rw (same_share-is b a t) (same_share-itself a))

abbrev keys_in : List Key → List FilterKey
keys_in ks = map key_in ks

-- ## One that joins

-- once a text joined, a subscription is listed if it was, or if it has the text's share and filter
pub own-insert : (k : Key) (ks : List Key) (s : Subscription)
    → is_in_list (keys_in (insert_key key_cmp ks k)) s
    ≡ (has_filter_key s (key_in k) || is_in_list (keys_in ks) s)
own-insert k [] s = refl
own-insert k (x ∷ xs) s =
    let rest : Bool = is_in_list (keys_in xs) s in
    pick_order (key_cmp k x) (λ e. rw e)
    (λ e. rw (e, key_text (rc_str_bytes k) (rc_str_bytes x) (ap is_eq e))
    (or_again (has_filter_key s (key_in x)) rest))
    (λ e. rw (e, own-insert k xs s)
    (or_swapped (has_filter_key s (key_in x)) (has_filter_key s (key_in k)) rest))

-- ## One that leaves

filter_parts : (s : Subscription) (key : FilterKey) → has_filter_key s key ≡ true
    → (s.share ≡ key.0) × (s.filter ≡ key.1)
filter_parts s key h =
    let both = and_parts (same_share s.share key.0) (same_text s.filter key.1) h in
    (same_share-is s.share key.0 both.0, same_text-is s.filter key.1 both.1)

-- the texts of one subscription are equal
own-text : (s : Subscription) (a b : Text) → is_subscription a ≡ true → is_subscription b ≡ true
    → has_filter_key s (text_key a) ≡ true → has_filter_key s (text_key b) ≡ true → a ≡ b
own-text s a b valid_a valid_b own_a own_b =
    let in_a = filter_parts s (text_key a) own_a in
    let in_b = filter_parts s (text_key b) own_b in
    same_parts a b valid_a valid_b (sym in_a.0 ∙ in_b.0) (sym in_a.1 ∙ in_b.1)

-- so of a text that has the subscription, the one that leaves is known by the subscription too
named : (s : Subscription) (text : Text) (x : Key) → is_subscription text ≡ true → IsAsked x
    → has_filter_key s (key_in x) ≡ true → is_text text (rc_str_bytes x)
    ≡ has_filter_key s (text_key text)
named s text x valid asked own = both_ways (is_text text (rc_str_bytes x))
    (has_filter_key s (text_key text))
    (λ t. ap (λ (v : Text). has_filter_key s (text_key v)) (key_text text (rc_str_bytes x) t) ∙ own)
    (λ t. is_text-is text (rc_str_bytes x)
    ∙ ap (same_text text) (own-text s (rc_str_bytes x) text asked valid own t)
    ∙ same_text-itself text)

any_left : (s : Subscription) (text : Text) → is_subscription text ≡ true → (ks : List Key)
    → AllByRecursion IsAsked ks → list_any (λ k. has_filter_key s (key_in k))
    (filter (λ k. not (is_text text (rc_str_bytes k))) ks)
    ≡ (not (has_filter_key s (text_key text)) && list_any (λ k. has_filter_key s (key_in k)) ks)
any_left s text valid [] asked = sym (and_right _ _ refl)
any_left s text valid (x ∷ xs) asked =
    let rest = any_left s text valid xs asked.1 in
    pick (has_filter_key s (key_in x))
    (λ o. rw (o, named s text x valid asked.0 o) (pick (has_filter_key s (text_key text))
    (λ g. rw g (rw g at rest)) (λ g. rw (g, o))))
    (λ n. pick (is_text text (rc_str_bytes x)) (λ t. rw (t, n) rest) (λ m. rw (m, n) rest))

-- a subscription's text leaves texts in order, each a subscription's: what is listed still is what
-- was, but for that share name and filter
pub own-remove : (text : Text) (ks : List Key) → is_subscription text ≡ true
    → AllByRecursion IsAsked ks → IsStrictlySortedBy key_cmp ks → (s : Subscription)
    → is_in_list (keys_in (remove_key (λ k. is_text text (rc_str_bytes k)) ks)) s
    ≡ (not (has_filter_key s (text_key text)) && is_in_list (keys_in ks) s)
own-remove text ks valid asked sorted s =
    let gone : Key → Bool = λ k. is_text text (rc_str_bytes k) in
    rw (remove_key-filter key_cmp gone
    (λ x y. text-apart text (rc_str_bytes x) (rc_str_bytes y)) ks sorted)
    (rw (list_any-map key_in (has_filter_key s) (filter (λ k. not (gone k)) ks))
    (rw (list_any-map key_in (has_filter_key s) ks) (any_left s text valid ks asked)))

-- ## The texts stay a subscription's each

-- each text is still a subscription's after the text of one joined
pub asked-insert : (k : Key) (ks : List Key) → IsAsked k → AllByRecursion IsAsked ks
    → AllByRecursion IsAsked (insert_key key_cmp ks k)
asked-insert k [] h asked = (h, tt)
asked-insert k (x ∷ xs) h asked =
    pick_order (key_cmp k x) (λ e. rw e (h, asked)) (λ e. rw e asked)
    (λ e. rw e (asked.0, asked-insert k xs h asked.1))

-- each text is still a subscription's after one was taken out
pub asked-remove : (test : Key → Bool) (ks : List Key) → AllByRecursion IsAsked ks
    → AllByRecursion IsAsked (remove_key test ks)
asked-remove test [] asked = asked
asked-remove test (x ∷ xs) asked =
    pick (test x) (λ t. rw t asked.1) (λ n. rw n (asked.0, asked-remove test xs asked.1))
