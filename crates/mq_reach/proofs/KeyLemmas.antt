-- The keys of subscriptions, and rows that have them.
use Rattle.std.proofs.Common.{◌≡◌, ℕ, Bool, true, false, cond, ◌&&◌, ◌||◌, not, List, [], ◌∷◌}
use Rattle.std.proofs.Common.{map, Option, Some, None, refl, sym, ◌∙◌, ap}
use Rattle.std.specs.declared.cmp.Ordering.{Ordering}
use Rattle.std.specs.declared.cmp.Ordering.TheVariants.{Less, Equal, Greater}
use Rattle.std.specs.Cmp.{both_ways}
use Rattle.std.specs.List.{filter, list_any}
use Rattle.std.specs.Ordering.{is_eq, is_lt, ordering_reverse}
use Rattle.std.proofs.Math.Bool.{and-false, and_assoc}
use Rattle.std.proofs.lemmas.Bool.{and_from, and_parts}
use Rattle.mq_topic.specs.Texts.{filter_part, is_subscription, share_of}
use Rattle.mq_topic.proofs.PartLemmas.{same_parts}
use Rattle.mq_world.specs.After.{without_client}
use Rattle.mq_world.specs.Groups.{restamp}
use Rattle.mq_world.specs.Lists.{Text, same_text, with_row}
use Rattle.mq_world.specs.World.{Row}
use Rattle.mq_world.specs.World.{Subscription, SubscriptionOptions, World}
use Rattle.mq_world.specs.World.{has_key, row_cmp, same_key, same_share}
use Rattle.mq_world.specs.World.{subscription_cmp}
use Rattle.mq_world.specs.World.{subscription_of, subscriptions_of}
use Rattle.mq_world.proofs.BoolLemmas.{pick}
use Rattle.mq_world.proofs.ListLemmas.{any-append, list_any-map}
use Rattle.mq_world.proofs.OrderLemmas.{same_share-is, same_text-is, same_text-itself, text_flip}
use Rattle.mq_world.proofs.OrderLemmas.{subscription_total, tied_is}
use Rattle.mq_reach.specs.Subscriptions.{is_taken, makes, stays}
use Rattle.mq_reach.specs.Subscriptions as spec

-- ## The key of a subscription

-- what it asks for beside its filter takes no part here
abbrev pub any_options : SubscriptionOptions
any_options = record {
  qos = 0;
  no_local = false;
  retain_as_published = false;
  handling = 0;
  identifier = None;
}

abbrev pub key_of : spec.Subscription → Subscription
key_of shown = subscription_of shown.client shown.filter any_options

pub key_parts : (a b : Subscription) → same_key a b ≡ true
    → (b.client ≡ a.client) × (b.share ≡ a.share) × (b.filter ≡ a.filter)
key_parts a b h =
    let left = and_parts (same_text b.client a.client && same_share b.share a.share)
    (same_text b.filter a.filter) h in
    let front = and_parts (same_text b.client a.client) (same_share b.share a.share) left.0 in (
      same_text-is b.client a.client front.0,
      same_share-is b.share a.share front.1,
      same_text-is b.filter a.filter left.1,
    )

-- subscriptions with one key have another key or have it not
alike : (client : Text) (share : Option Text) (own : Text) (a b : Subscription)
    → same_key a b ≡ true → has_key client share own b ≡ has_key client share own a
alike client share own a b h =
    let e = key_parts a b h in
    ap (λ c. (same_text c client && same_share b.share share) && same_text b.filter own) e.0
    ∙ ap (λ s. (same_text a.client client && same_share s share) && same_text b.filter own) e.1
    ∙ ap (λ f. (same_text a.client client && same_share a.share share) && same_text f own) e.2

-- and stand on the same side of another
alike_order : (a b x : Subscription) → same_key a b ≡ true
    → subscription_cmp b x ≡ subscription_cmp a x
alike_order a b x h =
    let e = key_parts a b h in
    let by : Text → Option Text → Text → Ordering = λ c s f. subscription_cmp
    (record { client = c; share = s; filter = f; options = any_options }) x in
    ap (λ c. by c b.share b.filter) e.0 ∙ ap (λ s. by a.client s b.filter) e.1
    ∙ ap (λ f. by a.client a.share f) e.2

alike_behind : (a b x : Subscription) → same_key a b ≡ true
    → subscription_cmp x b ≡ subscription_cmp x a
alike_behind a b x h =
    subscription_total.antisymm x b ∙ ap ordering_reverse (alike_order a b x h)
    ∙ sym (subscription_total.antisymm x a)

same_share-itself : (share : Option Text) → same_share share share ≡ true
same_share-itself None = refl
same_share-itself (Some text) = same_text-itself text

pub same_key-itself : (s : Subscription) → same_key s s ≡ true
same_key-itself s =
    and_from (same_text s.client s.client && same_share s.share s.share)
    (same_text s.filter s.filter)
    (and_from (same_text s.client s.client) (same_share s.share s.share)
    (same_text-itself s.client) (same_share-itself s.share)) (same_text-itself s.filter)

-- the text of a subscription is its share name and its filter
parts-same : (a b : Text) → is_subscription a ≡ true → is_subscription b ≡ true
    → (same_share (share_of a) (share_of b) && same_text (filter_part a) (filter_part b))
    ≡ same_text a b
parts-same a b left right = both_ways _ _
    (λ h. (let both = and_parts (same_share (share_of a) (share_of b))
    (same_text (filter_part a) (filter_part b)) h in
    ap (same_text a) (sym (same_parts a b left right (same_share-is _ _ both.0)
    (same_text-is _ _ both.1))) ∙ same_text-itself a))
    (λ h. (let e : a ≡ b = same_text-is a b h in
    and_from (same_share (share_of a) (share_of b)) (same_text (filter_part a) (filter_part b))
    (ap (λ t. same_share (share_of a) (share_of t)) (sym e) ∙ same_share-itself (share_of a))
    (ap (λ t. same_text (filter_part a) (filter_part t)) (sym e)
    ∙ same_text-itself (filter_part a))))

-- it has the key of a text where it is that text
pub key-is : (shown : spec.Subscription) (client text : Text) → is_subscription shown.filter ≡ true
    → is_subscription text ≡ true
    → has_key client (share_of text) (filter_part text) (key_of shown)
    ≡ (same_text shown.client client && same_text shown.filter text)
key-is shown client text valid right =
    and_assoc (same_text shown.client client)
    (same_share (share_of shown.filter) (share_of text))
    (same_text (filter_part shown.filter) (filter_part text))
    ∙ ap (λ b. same_text shown.client client && b) (parts-same shown.filter text valid right)

pub made-is : (shown : spec.Subscription) (client text : Text) (options : SubscriptionOptions)
    → is_subscription shown.filter ≡ true → is_subscription text ≡ true
    → same_key (key_of shown) (subscription_of client text options)
    ≡ (same_text shown.client client && same_text shown.filter text)
made-is shown client text options valid right =
    and_assoc (same_text client shown.client)
    (same_share (share_of text) (share_of shown.filter))
    (same_text (filter_part text) (filter_part shown.filter))
    ∙ ap (λ b. same_text client shown.client && b) (parts-same text shown.filter right valid)
    ∙ ap (λ b. b && same_text text shown.filter) (text_flip client shown.client)
    ∙ ap (λ b. same_text shown.client client && b) (text_flip text shown.filter)

-- ## Rows with a key

pub any-kept : {X : Type 0} (p q : X → Bool) (b : Bool) → ((x : X) → p x ≡ true → q x ≡ b)
    → (xs : List X) → list_any p (filter q xs) ≡ (list_any p xs && b)
any-kept p q b agree [] = refl
any-kept {X} p q b agree (x ∷ xs) =
    pick (p x)
    (λ t. ap (λ c. list_any p (cond c (x ∷ filter q xs) (filter q xs))) (agree x t) ∙ here b t
    (any-kept p q b agree xs))
    (λ f. away (q x) f (any-kept p q b agree xs))
  where
    here : (c : Bool) → p x ≡ true → list_any p (filter q xs) ≡ (list_any p xs && c)
        → list_any p (cond c (x ∷ filter q xs) (filter q xs)) ≡ ((p x || list_any p xs) && c)
    here true t ih = ap (λ d. d || list_any p (filter q xs)) t
        ∙ sym (ap (λ d. (d || list_any p xs) && true) t)
    here false t ih = ih ∙ and-false (list_any p xs) ∙ sym (and-false (p x || list_any p xs))

    away : (c : Bool) → p x ≡ false → list_any p (filter q xs) ≡ (list_any p xs && b)
        → list_any p (cond c (x ∷ filter q xs) (filter q xs)) ≡ ((p x || list_any p xs) && b)
    away true f ih = ap (λ d. d || list_any p (filter q xs)) f ∙ ih
        ∙ sym (ap (λ d. (d || list_any p xs) && b) f)
    away false f ih = ih ∙ sym (ap (λ d. (d || list_any p xs) && b) f)

-- a row has the key of the subscription
abbrev pub has_row : Subscription → List Row → Bool
has_row s rows = list_any (λ row. same_key s row.subscription) rows

abbrev pub is_there : Subscription → World → Bool
is_there s w = list_any (same_key s) (subscriptions_of w)

pub there-is : (s : Subscription) (w : World) → is_there s w ≡ has_row s w.rows
there-is s w = list_any-map (λ (row : Row). row.subscription) (same_key s) w.rows

pub has_row-without : (s : Subscription) (client : Text) (rows : List Row)
    → has_row s (without_client client rows) ≡ (has_row s rows && not (same_text s.client client))
has_row-without s client rows =
    any-kept (λ (row : Row). same_key s row.subscription)
    (λ row. not (same_text row.subscription.client client)) (not (same_text s.client client))
    (λ row h. ap (λ c. not (same_text c client)) (key_parts s row.subscription h).0) rows

pub has_row-unsubscribed : (s : Subscription) (client text : Text) (rows : List Row)
    → has_row s (filter (λ row. not (has_key client (share_of text) (filter_part text)
    row.subscription)) rows)
    ≡ (has_row s rows && not (has_key client (share_of text) (filter_part text) s))
has_row-unsubscribed s client text rows =
    any-kept (λ (row : Row). same_key s row.subscription)
    (λ row. not (has_key client (share_of text) (filter_part text) row.subscription))
    (not (has_key client (share_of text) (filter_part text) s))
    (λ row h. ap not (alike client (share_of text) (filter_part text) s row.subscription h)) rows

-- a row that is put among others
pub has_row-with : (s : Subscription) (row : Row) (rows : List Row)
    → has_row s (with_row row_cmp row rows) ≡ (has_row s rows || same_key s row.subscription)
unfolding with_row
has_row-with s row rows =
    let x : Subscription = row.subscription in
    any-append (λ (r : Row). same_key s r.subscription) (filter (λ r. is_lt (row_cmp r row)) rows)
    (row ∷ filter (λ r. is_lt (row_cmp row r)) rows)
    ∙ ap (λ b. b || (same_key s x || has_row s (filter (λ r. is_lt (row_cmp row r)) rows)))
    (any-kept (λ (r : Row). same_key s r.subscription) (λ r. is_lt (row_cmp r row))
    (is_lt (subscription_cmp s x))
    (λ r h. ap is_lt (alike_order s r.subscription x h)) rows)
    ∙ ap (λ b. (has_row s rows && is_lt (subscription_cmp s x)) || (same_key s x || b))
    (any-kept (λ (r : Row). same_key s r.subscription) (λ r. is_lt (row_cmp row r))
    (is_lt (subscription_cmp x s))
    (λ r h. ap is_lt (alike_behind s r.subscription x h)) rows)
    ∙ ap (λ o. (has_row s rows && is_lt o)
    || (same_key s x || (has_row s rows && is_lt (subscription_cmp x s))))
    (subscription_total.antisymm s x)
    ∙ ap (λ b. (has_row s rows && is_lt (ordering_reverse (subscription_cmp x s)))
    || (b || (has_row s rows && is_lt (subscription_cmp x s)))) (sym (tied_is x s))
    ∙ cases (has_row s rows) (subscription_cmp x s)
    ∙ ap (λ b. has_row s rows || b) (tied_is x s)
  where
    cases : (a : Bool) (r : Ordering)
        → ((a && is_lt (ordering_reverse r)) || (is_eq r || (a && is_lt r))) ≡ (a || is_eq r)
    cases true Less = refl
    cases true Equal = refl
    cases true Greater = refl
    cases false Less = refl
    cases false Equal = refl
    cases false Greater = refl

pub any-restamped : (s : Subscription) (n : ℕ) (served rows : List Row)
    → has_row s (map (restamp n served) rows) ≡ has_row s rows
any-restamped s n served [] = refl
any-restamped s n served (row ∷ rows) =
    ap (λ b. b || has_row s (map (restamp n served) rows))
    (one (list_any (λ other. same_key other.subscription row.subscription) served))
    ∙ ap (λ b. same_key s row.subscription || b) (any-restamped s n served rows)
  where
    one : (b : Bool) → same_key s (cond b (record row { stamp = n }) row).subscription
        ≡ same_key s row.subscription
    one true = refl
    one false = refl
