-- The subscriptions at one filter, where one joins, leaves or is served.
use Rattle.std.proofs.Common.{◌≡◌, Bool, true, false, not, List, [], ◌∷◌, ◌++◌, map, Option, Some}
use Rattle.std.proofs.Common.{None, is_some, length, suc, IsTrue, ◌↔◌, refl, sym, ◌∙◌, ap, filter}
use Rattle.std.proofs.Common.{true≢false, flat_map, append-nil, ◌+◌, ap₂, length-append, sum_by}
use Rattle.std.specs.Rc.{rc_str_bytes}
use Rattle.std.specs.List.{list_any, AllByRecursion}
use Rattle.std.specs.List.Sorted.{IsStrictlySortedBy}
use Rattle.std.specs.Cmp.{IsTotalOrder}
use Rattle.std.specs.Cmp.Lexicographic.{on_texts}
use Rattle.std.specs.Map.{lookup, set_value, remove_entry, keys_of, values_of}
use Rattle.std.specs.BTreeMap.{insert_entry}
use Rattle.mq_world.specs.Keys.{Key, key_cmp}
use Rattle.mq_world.specs.Lists.{Text}
use Rattle.mq_world.specs.World.{Subscription, same_share, has_key, same_key}
use Rattle.mq_world.specs.Turns.{SameInTurn}
use Rattle.mq_subscriptions.specs.Turns.{with_one, put_last, upsert}
use Rattle.mq_subscriptions.specs.Filters.{Member, has_client, row, is_empty, unshared_rows, Entry}
use Rattle.mq_subscriptions.specs.Filters.{AreHere, GroupList, group_rows, NoneEmpty}
use Rattle.mq_subscriptions.specs.Views.{texts}
use Rattle.std.proofs.lemmas.Bool.{false_from_ne_true}
use Rattle.std.proofs.lemmas.List.Folds.{flat_map-map}
use Rattle.std.proofs.Math.Bool.{and-true}
use Rattle.mq_world.proofs.BoolLemmas.{pick}
use Rattle.mq_world.proofs.ListLemmas.{map-filter, filter-same, is_some-lookup, list_any-map}
use Rattle.mq_world.proofs.ListLemmas.{list_any-same, remove_entry-filter}
use Rattle.mq_world.proofs.OrderLemmas.{same_text-itself, all_append}
use Rattle.mq_world.proofs.Splits.{some_same, none_some, Split, split, put_gap, put_found}
use Rattle.mq_world.proofs.Splits.{none_passes}
use Rattle.mq_world.proofs.TextKeys.{finds, finds-is, key-is, apart}
use Rattle.mq_subscriptions.proofs.InTurn.{joining, LocalEdit, none_same, Unlike, same-is}
use Rattle.mq_subscriptions.proofs.InTurn.{any-among, same-itself, unlike-share, unlike-own}
use Rattle.mq_subscriptions.proofs.InTurn.{same_share-itself}
use Rattle.mq_subscriptions.proofs.Cuts.{Away, cut-any, absent-any, cut-edited, cut-out}
use Rattle.mq_subscriptions.proofs.Cuts.{absent-edited, put-edited}
use Rattle.mq_world.specs.declared.options.SubscriptionOptions.{SubscriptionOptions}
use Rattle.std.proofs.lemmas.List.{length-map}
use Rattle.std.proofs.lemmas.List.Sums.{sum_by-cons}

-- a subscription with this key
abbrev pub keyed : Text → Option Text → Text → Subscription
keyed client share filter = record {
  client = client;
  share = share;
  filter = filter;
  options = record {
    qos = 0;
    no_local = false;
    retain_as_published = false;
    handling = 0;
    identifier = None;
  };
}

-- under its share name and filter, a row has the key of its member's client, and of no other
pub own_key : (share : Option Text) (f c : Text) (m : Member)
    → has_key c share f (row share f m) ≡ has_client c m
own_key share f c m = simp (same_share-itself share, same_text-itself f, and-true)

-- without a client's member, the rows are those without the client's key
pub left_rows : (share : Option Text) (f c : Text) (ms : List Member)
    → map (row share f) (filter (λ m. not (has_client c m)) ms)
    ≡ filter (λ x. not (has_key c share f x)) (map (row share f) ms)
left_rows share f c ms =
    ap (map (row share f)) (filter-same (λ m. not (has_client c m))
    (λ m. not (has_key c share f (row share f m))) (λ m. ap not (sym (own_key share f c m))) ms)
    ∙ map-filter (row share f) (λ x. not (has_key c share f x)) ms

-- what is true of each row of a member is true of all rows of members, and of groups
each_row : (P : Subscription → Type 0) (share : Option Text) (f : Text)
    → ((m : Member) → P (row share f m)) → (ms : List Member)
    → AllByRecursion P (map (row share f) ms)
each_row P share f h [] = tt
each_row P share f h (m ∷ ms) = (h m, each_row P share f h ms)

pub each_group : (P : Subscription → Type 0) (f : Text)
    → ((share : Text) (m : Member) → P (row (Some share) f m)) → (gs : GroupList)
    → AllByRecursion P (group_rows f gs)
each_group P f h [] = tt
each_group P f h (g ∷ gs) = all_append P (map (row (Some g.0) f) g.1) (group_rows f gs)
    (each_row P (Some g.0) f (h g.0) g.1) (each_group P f h gs)

-- ## Groups

abbrev rows_of : Text → Key × List Member → List Subscription
rows_of f g = map (row (Some (rc_str_bytes g.0)) f) g.1

rows-groups : (f : Text) (es : List (Key × List Member))
    → group_rows f (texts es) ≡ flat_map (rows_of f) es
rows-groups f es = flat_map-map (λ (g : Text × List Member). map (row (Some g.0) f) g.1)
    (λ (e : Key × List Member). (rc_str_bytes e.0, e.1)) es

-- a group with another share name has no row with a subscription's key, and none in its group
group_away : (f bs : Text) (s : Subscription) → s.share ≡ Some bs → (es : List (Key × List Member))
    → Away (rows_of f) (finds bs) s es
group_away f bs s own [] = tt
group_away f bs s own (e ∷ es) =
    let share : Option Text = Some (rc_str_bytes e.0) in
    let here : finds bs e.0 ≡ false → AllByRecursion (Unlike s) (rows_of f e) =
    λ n. each_row (Unlike s) share f
    (λ m. unlike-share s (row share f m) (rw own (sym (finds-is bs e.0) ∙ n))) e.1 in
    (here, group_away f bs s own es)

-- a list in which an element took its place has an element
pub with_one-live : {X : Type 0} (p : X → Bool) (x : X) (xs : List X)
    → is_empty (with_one p x xs) ≡ false
with_one-live p x [] = refl
with_one-live p x (y ∷ ys) = refl

append-live : {X : Type 0} (xs : List X) (y : X) (ys : List X) → is_empty (xs ++ y ∷ ys) ≡ false
append-live [] y ys = refl
append-live (x ∷ xs) y ys = refl

-- a list that is not empty still isn't after those that pass a test went last
pub put_last-live : {X : Type 0} (p : X → Bool) (xs : List X) → is_empty xs ≡ false
    → is_empty (put_last p xs) ≡ false
put_last-live p [] h = h
put_last-live p (x ∷ xs) h =
    pick (p x) (λ t. rw t (append-live (filter (λ y. not (p y)) xs) x (filter p xs))) (λ n. rw n)

pub empty_is : {X : Type 0} (xs : List X) → is_empty xs ≡ true → xs ≡ []
empty_is [] h = refl
empty_is (x ∷ xs) h = absurd (true≢false (sym h))

-- a group that is found has a member
pub found_live : (bs : Text) (es : List (Key × List Member)) → NoneEmpty (texts es)
    → (v : List Member) → lookup (finds bs) es ≡ Some v → is_empty v ≡ false
found_live bs [] live v h = absurd (none_some h)
found_live bs (e ∷ es) live v h =
    pick (finds bs e.0) (λ t. rw (← some_same (rw t at h)) live.0)
    (λ n. found_live bs es live.1 v (rw n at h))

module _ (bs : Text) (es : List (Key × List Member)) where
  module _ (sorted : IsStrictlySortedBy key_cmp (keys_of es)) (v w : List Member)
      (new : List (Key × List Member)) (found : lookup (finds bs) es ≡ Some v)
      (set : new ≡ set_value (finds bs) es w) (f : Text) where
    cut : Split (finds bs) es v
    cut = split key_cmp (finds bs) (apart bs) es v sorted found

    key : rc_str_bytes cut.key ≡ bs
    key = key-is bs cut.key cut.passes

    module _ (s : Subscription) (own : s.share ≡ Some bs) (e : LocalEdit s) where
      pub group-edited : e.same (map (row (Some bs) f) w) (e.edit (map (row (Some bs) f) v))
          → e.same (group_rows f (texts new)) (e.edit (group_rows f (texts es)))
      group-edited h =
          rw (set, rows-groups f (set_value (finds bs) es w), rows-groups f es)
          (cut-edited (rows_of f) (finds bs) s es (group_away f bs s own es) v cut e w (rw key h))

      pub group-out : (out : List (Key × List Member)) → out ≡ remove_entry (finds bs) new
          → e.same [] (e.edit (map (row (Some bs) f) v))
          → e.same (group_rows f (texts out)) (e.edit (group_rows f (texts es)))
      group-out out o h =
          rw (o, set, rows-groups f (remove_entry (finds bs) (set_value (finds bs) es w)))
          (rw (rows-groups f es)
          (cut-out (rows_of f) (finds bs) s es (group_away f bs s own es) v cut e w (rw key h)))

    pub group-any : (c : Text) → list_any (has_client c) v
        ≡ list_any (has_key c (Some bs) f) (group_rows f (texts es))
    group-any c =
        let s : Subscription = keyed c (Some bs) f in
        rw (rows-groups f es)
        (rw (cut-any (rows_of f) (finds bs) s es (group_away f bs s refl es) v cut)
        (rw (key, list_any-map (row (Some bs) f) (same_key s) v)
        (sym (list_any-same (λ m. same_key s (row (Some bs) f m)) (has_client c)
        (own_key (Some bs) f c) v))))

  module _ (none : lookup (finds bs) es ≡ None) (f : Text) where
    pub group-absent_any : (c : Text)
        → false ≡ list_any (has_key c (Some bs) f) (group_rows f (texts es))
    group-absent_any c =
        let s : Subscription = keyed c (Some bs) f in
        rw (rows-groups f es) (sym (absent-any (rows_of f) (finds bs) s es
        (group_away f bs s refl es) (none_passes (finds bs) es none)))

    pub group-absent : (s : Subscription) → s.share ≡ Some bs → (e : LocalEdit s)
        → e.same [] (e.edit []) → e.same (group_rows f (texts es))
        (e.edit (group_rows f (texts es)))
    group-absent s own e h = rw (rows-groups f es) (absent-edited (rows_of f) (finds bs) s es
        (group_away f bs s own es) (none_passes (finds bs) es none) e h)

-- a group of one member is added
pub group-added : (bs : Text) (name : Key) → rc_str_bytes name ≡ bs
    → (es new : List (Key × List Member)) → lookup (finds bs) es ≡ None → (one : List Member)
    → new ≡ insert_entry key_cmp es name one → (f c : Text) (o : SubscriptionOptions)
    → one ≡ with_one (has_client c) (c, o) [] → SameInTurn (group_rows f (texts new))
    (upsert (row (Some bs) f (c, o)) (group_rows f (texts es)))
group-added bs name named es new none one put f c o h =
    let s : Subscription = row (Some (rc_str_bytes name)) f (c, o) in
    rw (← named, put, rows-groups f (insert_entry key_cmp es name one), rows-groups f es)
    (put-edited (rows_of f) key_cmp name s es (group_away f (rc_str_bytes name) s refl es)
    (put_gap key_cmp name es (rw (← named) at none)) (joining s) one
    (same-is _ _ (ap (map (row (Some (rc_str_bytes name)) f)) h)))

-- ## Clients in their own name

abbrev one_row : Text → Key × SubscriptionOptions → List Subscription
one_row f e = row None f (rc_str_bytes e.0, e.1) ∷ []

rows-own : (f : Text) (es : List (Key × SubscriptionOptions))
    → unshared_rows f (texts es) ≡ flat_map (one_row f) es
rows-own f [] = refl
rows-own f (e ∷ es) = ap (λ l. row None f (rc_str_bytes e.0, e.1) ∷ l) (rows-own f es)

key_total : IsTotalOrder key_cmp
key_total = on_texts rc_str_bytes

module _ (f : Text) (name : Key) (o : SubscriptionOptions) (es : List (Key × SubscriptionOptions))
    (sorted : IsStrictlySortedBy key_cmp (keys_of es)) where
  abbrev bs : Text
  bs = rc_str_bytes name

  abbrev mine : Subscription
  mine = row None f (bs, o)

  own_away : (ds : List (Key × SubscriptionOptions)) → Away (one_row f) (finds bs) mine ds
  own_away [] = tt
  own_away (d ∷ ds) =
      let other : Subscription = row None f (rc_str_bytes d.0, d.1) in
      (λ n. (unlike-own mine other refl (sym (finds-is bs d.0) ∙ n), tt), own_away ds)

  by_found : (r : Option SubscriptionOptions) → lookup (finds bs) es ≡ r
      → SameInTurn (flat_map (one_row f) (insert_entry key_cmp es name o))
      (upsert mine (flat_map (one_row f) es))
  by_found (Some v) found =
      let cut : Split (finds bs) es v = split key_cmp (finds bs) (apart bs) es v sorted found in
      rw (put_found key_cmp key_total name es v o sorted found)
      (cut-edited (one_row f) (finds bs) mine es (own_away es) v cut (joining mine) o
      (same-is _ _ (rw (key-is bs cut.key cut.passes)
      (rw (own_key None f bs (bs, v), same_text-itself bs)))))
  by_found None none = put-edited (one_row f) key_cmp name mine es (own_away es)
      (put_gap key_cmp name es none) (joining mine) o (same-itself (mine ∷ []))

  pub unshared-joined : (new : List (Key × SubscriptionOptions))
      → new ≡ insert_entry key_cmp es name o
      → SameInTurn (unshared_rows f (texts new)) (upsert mine (unshared_rows f (texts es)))
  unshared-joined new put = rw (put, rows-own f (insert_entry key_cmp es name o), rows-own f es)
      (by_found (lookup (finds bs) es) refl)

-- where entries are in order, to remove a client's entry is to filter out its own row
pub unshared-left : (f bs : Text) (es new : List (Key × SubscriptionOptions))
    → IsStrictlySortedBy key_cmp (keys_of es) → new ≡ remove_entry (finds bs) es
    → unshared_rows f (texts new) ≡ filter (λ x. not (has_key bs None f x))
    (unshared_rows f (texts es))
unshared-left f bs es new sorted out =
    let shown : Key × SubscriptionOptions → Member = λ e. (rc_str_bytes e.0, e.1) in
    rw (out, remove_entry-filter key_cmp (finds bs) (apart bs) es sorted)
    (rw (filter-same (λ e. not (finds bs e.0)) (λ e. not (has_client bs (shown e)))
    (λ e. ap not (finds-is bs e.0)) es)
    (rw (map-filter shown (λ m. not (has_client bs m)) es) (left_rows None f bs (texts es))))

-- ## Both

all_own : (f : Text) (s : Subscription) (share : Text) → s.share ≡ Some share → (ms : List Member)
    → AllByRecursion (Unlike s) (unshared_rows f ms)
all_own f s share e =
    each_row (Unlike s) None f (λ m. unlike-share s (row None f m) (ap (same_share None) e))

all_shared : (f : Text) (s : Subscription) → s.share ≡ None → (gs : GroupList)
    → AllByRecursion (Unlike s) (group_rows f gs)
all_shared f s e =
    each_group (Unlike s) f
    (λ share m. unlike-share s (row (Some share) f m) (ap (same_share (Some share)) e))

module _ (s : Subscription) (e : LocalEdit s) (f : Text) where
  pub at-edited : s.share ≡ None → (d new : List Member) (gs : GroupList)
      → e.same (unshared_rows f new) (e.edit (unshared_rows f d))
      → e.same (unshared_rows f new ++ group_rows f gs)
      (e.edit (unshared_rows f d ++ group_rows f gs))
  at-edited own d new gs h = e.local [] (unshared_rows f d) (unshared_rows f new) (group_rows f gs)
      tt (all_shared f s own gs) h

  pub at-edited_shared : (share : Text) → s.share ≡ Some share → (d : List Member)
      (gs new : GroupList) → e.same (group_rows f new) (e.edit (group_rows f gs))
      → e.same (unshared_rows f d ++ group_rows f new)
      (e.edit (unshared_rows f d ++ group_rows f gs))
  at-edited_shared share own d gs new h =
      rw (← append-nil (group_rows f new), ← append-nil (group_rows f gs))
      (e.local (unshared_rows f d) (group_rows f gs) (group_rows f new) []
      (all_own f s share own d) tt h)

-- each is to the filter
pub here-is : (f : Text) (d : List Member) (gs : GroupList)
    → AllByRecursion (λ s. s.filter ≡ f) (unshared_rows f d ++ group_rows f gs)
here-is f d gs =
    all_append (λ s. s.filter ≡ f) (unshared_rows f d) (group_rows f gs)
    (each_row (λ s. s.filter ≡ f) None f (λ m. refl) d)
    (each_group (λ s. s.filter ≡ f) f (λ share m. refl) gs)

-- so is each in what an entry shows
pub is_here : (f : Text) (d : List Member) (gs : GroupList) (a : Entry)
    → record { filter = f; rows = unshared_rows f d ++ group_rows f gs } ≡ a → AreHere a
is_here f d gs a e = rw (← e) (here-is f d gs)

-- a client is found among the entries just where it has an own row at the filter
pub unshared-any : (f bs : Text) (es : List (Key × SubscriptionOptions))
    → is_some (lookup (finds bs) es) ≡ list_any (has_key bs None f) (unshared_rows f (texts es))
unshared-any f bs es =
    let shown : Key × SubscriptionOptions → Member = λ e. (rc_str_bytes e.0, e.1) in
    rw (is_some-lookup (finds bs) es, list_any-map (row None f) (has_key bs None f) (texts es))
    (rw (list_any-map shown (λ m. has_key bs None f (row None f m)) es)
    (list_any-same (λ e. finds bs e.0) (λ e. has_key bs None f (row None f (shown e)))
    (λ e. finds-is bs e.0 ∙ sym (own_key None f bs (shown e))) es))

-- a client's own key is at the filter just where it is among the own rows
pub at-any-unshared : (f c : Text) (d : List Member) (gs : GroupList)
    → list_any (has_key c None f) (unshared_rows f d)
    ≡ list_any (has_key c None f) (unshared_rows f d ++ group_rows f gs)
at-any-unshared f c d gs =
    let s : Subscription = keyed c None f in
    sym (any-among (same_key s) [] (unshared_rows f d) (group_rows f gs) tt
    (none_same s _ (all_shared f s refl gs)))

-- a key with a share name is at the filter just where it is among the rows of groups
pub at-any-shared : (f c share : Text) (d : List Member) (gs : GroupList)
    → list_any (has_key c (Some share) f) (group_rows f gs)
    ≡ list_any (has_key c (Some share) f) (unshared_rows f d ++ group_rows f gs)
at-any-shared f c share d gs =
    let s : Subscription = keyed c (Some share) f in
    sym (rw (append-nil (group_rows f gs)) at (any-among (same_key s) (unshared_rows f d)
    (group_rows f gs) [] (none_same s _ (all_own f s share refl d)) tt))

-- where there is no group there is no member
pub none-is : (f : Text) (gs : List (Key × List Member)) → NoneEmpty (texts gs) → (b : Bool)
    → (IsTrue b ↔ (length gs ≡ 0)) → b ≡ is_empty (group_rows f (texts gs))
none-is f [] live b h = h.1 refl
none-is f ((k, m ∷ ms) ∷ gs) live b h =
    false_from_ne_true b (λ t. (let no : suc (length gs) ≡ 0 = h.0 t in cc))
none-is f ((k, []) ∷ gs) live b h = absurd (true≢false live.0)

-- nothing is here where no client subscribes in its own name and no group has a member
pub empty-is : (f : Text) (d : List (Key × SubscriptionOptions)) (gs : GroupList) (b : Bool)
    → b ≡ is_empty (group_rows f gs) → length d ≡ 0
    → b ≡ is_empty (unshared_rows f (texts d) ++ group_rows f gs)
empty-is f [] gs b h e = h
empty-is f (m ∷ d) gs b h e = absurd (let no : suc (length d) ≡ 0 = e in cc)

-- where some client subscribes in its own name, the filter has a row
pub not_empty : (f : Text) (d : List (Key × SubscriptionOptions)) (gs : GroupList)
    → (length d ≡ 0 → ⊥) → false ≡ is_empty (unshared_rows f (texts d) ++ group_rows f gs)
not_empty f [] gs h = absurd (h refl)
not_empty f (m ∷ d) gs h = refl

-- ## How many

-- the groups at a filter have as many rows as members, all together
pub group-number : (f : Text) (groups : List (Key × List Member))
    → length (group_rows f (texts groups)) ≡ sum_by length (values_of groups)
group-number f [] = refl
group-number f (g ∷ groups) =
    length-append (map (row (Some (rc_str_bytes g.0)) f) g.1) (group_rows f (texts groups))
    ∙ ap₂ (λ a b. a + b) (length-map g.1 (row (Some (rc_str_bytes g.0)) f)) (group-number f groups)
    ∙ sym (sum_by-cons length g.1 (values_of groups))

-- the rows at a filter are as many as the own entries and the rows of groups together
pub at-number : (f : Text) (unshared : List (Key × SubscriptionOptions)) (groups : GroupList)
    → length (unshared_rows f (texts unshared) ++ group_rows f groups) ≡ length unshared
    + length (group_rows f groups)
at-number f unshared groups =
    length-append (unshared_rows f (texts unshared)) (group_rows f groups)
    ∙ ap (λ n. n + length (group_rows f groups)) (length-map (texts unshared) (row None f)
    ∙ length-map unshared (λ e. (rc_str_bytes e.0, e.1)))
