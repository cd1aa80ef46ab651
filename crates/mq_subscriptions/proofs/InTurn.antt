-- Subscriptions in any order but that of the members of groups, and a change among some of them.
use Rattle.std.proofs.Common.{◌≡◌, ◌⊎◌, inl, inr, Bool, true, false, true≢false, ◌&&◌, not, List}
use Rattle.std.proofs.Common.{[], ◌∷◌, ◌++◌, map, Option, Some, None, if◌then◌else◌, refl, sym, ◌∙◌}
use Rattle.std.proofs.Common.{ap, append_assoc, arith, filter, append-nil}
use Rattle.std.specs.List.{list_any, AllByRecursion}
use Rattle.std.proofs.lemmas.List.{map-append}
use Rattle.std.proofs.lemmas.List.Elements.{filter-append}
use Rattle.std.proofs.lemmas.Bool.{and_parts, and_from, and_left, and_right}
use Rattle.std.proofs.Math.Bool.{or-false}
use Rattle.mq_world.specs.Lists.{Text, same_text}
use Rattle.mq_world.specs.World.{Group, Subscription, is_in_group, same_share, same_key, has_key}
use Rattle.mq_world.specs.Turns.{SameInTurn}
use Rattle.mq_subscriptions.specs.Turns.{with_one, put_last, upsert, all_turned}
use Rattle.mq_world.proofs.BoolLemmas.{pick}
use Rattle.mq_world.proofs.ListLemmas.{map-filter, filter-same, any-append, filter-none}
use Rattle.mq_world.proofs.ListLemmas.{filter-kept, any-none, list_any-map, list_any-same}
use Rattle.mq_world.proofs.SameLemmas.{SameElements-filter, SameElements-map, list_any-SameElements}
use Rattle.mq_world.proofs.SameLemmas.{filter-swap}
use Rattle.mq_world.proofs.OrderLemmas.{length-filter-append, same_text-is, same_share-is}
use Rattle.mq_world.proofs.OrderLemmas.{same_text-itself, all_weaker, all_passed}

-- ## The same in turn

-- a list is the same in turn as itself
pub same-itself : (xs : List Subscription) → SameInTurn xs xs
same-itself xs = record { elements = λ p. refl; members = λ g. refl }

-- equal lists are the same in turn
pub same-is : (xs ys : List Subscription) → xs ≡ ys → SameInTurn xs ys
same-is xs ys e = rw e (same-itself ys)

-- where two lists are each the same in turn as the next, so is the first as the last
pub same-then : (xs ys zs : List Subscription) → SameInTurn xs ys → SameInTurn ys zs
    → SameInTurn xs zs
same-then xs ys zs h k = record {
  elements = λ p. h.elements p ∙ k.elements p;
  members =
      λ g. h.members g ∙ k.members g;
}

-- lists whose parts are the same in turn are so as a whole
pub same-append : (xs us ys vs : List Subscription) → SameInTurn xs us → SameInTurn ys vs
    → SameInTurn (xs ++ ys) (us ++ vs)
same-append xs us ys vs h k = record {
  elements = λ p. simp (length-filter-append, h.elements p, k.elements p);
  members = λ g. simp (filter-append, h.members g, k.members g);
}

-- lists that are the same in turn still are after one test filters both
pub same-filter : (q : Subscription → Bool) (xs ys : List Subscription) → SameInTurn xs ys
    → SameInTurn (filter q xs) (filter q ys)
same-filter q xs ys h = record {
  elements = SameElements-filter q xs ys h.elements;
  members = λ g. rw
      (filter-swap (is_in_group g) q xs, filter-swap (is_in_group g) q ys, h.members g);
}

-- a change that leaves each in its group
pub same-map : (f : Subscription → Subscription)
    → ((g : Group) (x : Subscription) → is_in_group g (f x) ≡ is_in_group g x)
    → (xs ys : List Subscription) → SameInTurn xs ys → SameInTurn (map f xs) (map f ys)
same-map f stays xs ys h = record {
  elements = SameElements-map f xs ys h.elements;
  members = λ g. rw (← map-filter f (is_in_group g) xs, ← map-filter f (is_in_group g) ys)
      (rw (filter-same (λ x. is_in_group g (f x)) (is_in_group g) (stays g) xs)
      (rw (filter-same (λ x. is_in_group g (f x)) (is_in_group g) (stays g) ys, h.members g)));
}

-- two parts that share no group
same-swap : (xs ys : List Subscription)
    → ((g : Group) → (filter (is_in_group g) xs ≡ []) ⊎ (filter (is_in_group g) ys ≡ []))
    → SameInTurn (xs ++ ys) (ys ++ xs)
same-swap xs ys apart = record {
  elements = λ p. omega (arith, length-filter-append p xs ys, length-filter-append p ys xs);
  members = λ g. rw (filter-append (is_in_group g) xs ys, filter-append (is_in_group g) ys xs)
      (elim (apart g) [
        | inl none ↦ rw none (sym (append-nil _))
        | inr none ↦ rw none (append-nil _)
      ]);
}

-- ## Keys

-- a share name, or none, is the same as itself
pub same_share-itself : (a : Option Text) → same_share a a ≡ true
same_share-itself None = refl
same_share-itself (Some a) = same_text-itself a

-- a subscription has its own key
pub own_key_is : (s : Subscription) → has_key s.client s.share s.filter s ≡ true
own_key_is s =
    and_from _ _ (and_from _ _ (same_text-itself s.client) (same_share-itself s.share))
    (same_text-itself s.filter)

-- one with a key has its client, share name and filter
pub key_parts : (c : Text) (share : Option Text) (f : Text) (x : Subscription)
    → has_key c share f x ≡ true → (x.client ≡ c) × (x.share ≡ share) × (x.filter ≡ f)
key_parts c share f x h =
    let both = and_parts (same_text x.client c && same_share x.share share) (same_text x.filter f) h
    in
    let first = and_parts (same_text x.client c) (same_share x.share share) both.0 in
    (same_text-is _ _ first.0, same_share-is _ _ first.1, same_text-is _ _ both.1)

-- one with the key is in the same groups
pub in_group_same : (s x : Subscription) (g : Group) → same_key s x ≡ true
    → is_in_group g x ≡ is_in_group g s
in_group_same s x g h =
    let is = key_parts s.client s.share s.filter x h in
    rw (is.1, is.2)

-- ## Subscriptions with another key and in other groups

abbrev pub Unlike : Subscription → Subscription → Type 0
Unlike s x = (same_key s x ≡ false)
    × ((g : Group) → is_in_group g s ≡ true → is_in_group g x ≡ false)

-- a subscription to another filter has another key and is in no group of the first
pub unlike-filter : (s x : Subscription) → same_text x.filter s.filter ≡ false → Unlike s x
unlike-filter s x h = (
  and_right (same_text x.client s.client && same_share x.share s.share) _ h,
  λ g e. (let here : s.filter ≡ g.filter = same_text-is _ _ (and_parts _ _ e).1 in
      and_right (same_share x.share (Some g.share)) _ (rw here at h)),
)

-- so it is where the share names differ, or only one has one
pub unlike-share : (s x : Subscription) → same_share x.share s.share ≡ false → Unlike s x
unlike-share s x h = (
  and_left _ (same_text x.filter s.filter) (and_right (same_text x.client s.client) _ h),
  λ g e. and_left _ (same_text x.filter g.filter)
      (rw (same_share-is s.share (Some g.share) (and_parts _ _ e).0) at h),
)

-- and where the first is in a client's own name, and the other is another client's
pub unlike-own : (s x : Subscription) → s.share ≡ None → same_text x.client s.client ≡ false
    → Unlike s x
unlike-own s x own h = (
  and_left _ (same_text x.filter s.filter) (and_left _ (same_share x.share s.share) h),
  λ g e. (let no : same_share s.share (Some g.share) ≡ true = (and_parts _ _ e).0 in
      absurd (true≢false (sym (rw own at no)))),
)

-- none that is unlike a subscription has its key
pub none_same : (s : Subscription) (xs : List Subscription) → AllByRecursion (Unlike s) xs
    → AllByRecursion (λ x. same_key s x ≡ false) xs
none_same s = all_weaker (Unlike s) (λ x. same_key s x ≡ false) (λ x u. u.0)

-- ## A change in the middle

-- an edit of what has a subscription's key, up to what is the same: with none like it around, to
-- edit the middle is to edit all
pub record LocalEdit (s : Subscription) : Type 1 where
  pub same : List Subscription → List Subscription → Type 0
  pub edit : List Subscription → List Subscription
  pub local : (front mid new back : List Subscription) → AllByRecursion (Unlike s) front
      → AllByRecursion (Unlike s) back → same new (edit mid)
      → same (front ++ (new ++ back)) (edit (front ++ (mid ++ back)))

-- where only the middle passes a test, to filter that out of the middle is to filter it out of all
pub removed-among : (p : Subscription → Bool) (front mid new back : List Subscription)
    → AllByRecursion (λ x. p x ≡ false) front → AllByRecursion (λ x. p x ≡ false) back
    → new ≡ filter (λ x. not (p x)) mid → front ++ (new ++ back)
    ≡ filter (λ x. not (p x)) (front ++ (mid ++ back))
removed-among p front mid new back h k e =
    simp (filter-append, filter-kept p front h, filter-kept p back k, e)

-- where only the middle can pass a test, one passes it there or nowhere
pub any-among : (p : Subscription → Bool) (front mid back : List Subscription)
    → AllByRecursion (λ x. p x ≡ false) front → AllByRecursion (λ x. p x ≡ false) back
    → list_any p (front ++ (mid ++ back)) ≡ list_any p mid
any-among p front mid back h k = simp (any-append, any-none p front h, any-none p back k, or-false)

-- no group has members both of what has the key and of what is unlike it
apart : (s : Subscription) (last back : List Subscription)
    → AllByRecursion (λ x. same_key s x ≡ true) last → AllByRecursion (Unlike s) back → (g : Group)
    → (filter (is_in_group g) last ≡ []) ⊎ (filter (is_in_group g) back ≡ [])
apart s last back h k g =
    let none = filter-none (is_in_group g) in
    pick (is_in_group g s)
    (λ t. inr (none back (all_weaker (Unlike s) (λ x. is_in_group g x ≡ false)
    (λ x u. u.1 g t) back k)))
    (λ f. inl (none last (all_weaker (λ x. same_key s x ≡ true) (λ x. is_in_group g x ≡ false)
    (λ x e. in_group_same s x g e ∙ f) last h)))

-- what has the key, where nothing behind is like it: in the middle or at the end of all
moved_out : (s : Subscription) (front new mid last back : List Subscription)
    → AllByRecursion (λ x. same_key s x ≡ true) last → AllByRecursion (Unlike s) back
    → SameInTurn new (mid ++ last)
    → SameInTurn (front ++ (new ++ back)) ((front ++ (mid ++ back)) ++ last)
moved_out s front new mid last back h k e =
    same-then _ _ _ (same-append front front (new ++ back) ((mid ++ last) ++ back)
    (same-itself front) (same-append new (mid ++ last) back back e (same-itself back)))
    (simp append_assoc (same-append front front (mid ++ (last ++ back)) (mid ++ (back ++ last))
    (same-itself front) (same-append mid mid (last ++ back) (back ++ last) (same-itself mid)
    (same-swap last back (apart s last back h k)))))

-- what has the key leaves
abbrev pub leaving : (s : Subscription) → LocalEdit s
leaving s = record {
  same = λ xs ys. xs ≡ ys;
  edit = filter (λ x. not (same_key s x));
  local = λ front mid new back h k. removed-among (same_key s) front mid new back
      (none_same s front h) (none_same s back k);
}

pub turned-among : (s : Subscription) (front mid new back : List Subscription)
    → AllByRecursion (Unlike s) front → AllByRecursion (Unlike s) back
    → SameInTurn new (put_last (same_key s) mid)
    → SameInTurn (front ++ (new ++ back)) (put_last (same_key s) (front ++ (mid ++ back)))
turned-among s front mid new back h k e =
    let p : Subscription → Bool = same_key s in
    let rest : List Subscription = filter (λ x. not (p x)) mid in
    let hs = none_same s front h in
    let ks = none_same s back k in
    let goes : filter p (front ++ (mid ++ back)) ≡ filter p mid =
    simp (filter-append, filter-none p front hs, filter-none p back ks, append-nil) in
    rw (goes, ← removed-among p front mid rest back hs ks refl)
    (moved_out s front new rest (filter p mid) back (all_passed p mid) k e)

-- what has the key goes last, in turn
abbrev pub turning : (s : Subscription) → LocalEdit s
turning s = record { same = SameInTurn; edit = put_last (same_key s); local = turned-among s }

-- where none has its key, a subscription takes no one's place
pub map-kept : (s : Subscription) (xs : List Subscription)
    → AllByRecursion (λ x. same_key s x ≡ false) xs
    → map (λ x. if same_key s x then s else x) xs ≡ xs
map-kept s [] h = refl
map-kept s (x ∷ xs) h = rw (h.0, map-kept s xs h.1)

pub joined-among : (s : Subscription) (front mid new back : List Subscription)
    → AllByRecursion (Unlike s) front → AllByRecursion (Unlike s) back
    → SameInTurn new (upsert s mid)
    → SameInTurn (front ++ (new ++ back)) (upsert s (front ++ (mid ++ back)))
joined-among s front mid new back h k e =
    let f : Subscription → Subscription = λ x. if same_key s x then s else x in
    let hs = none_same s front h in
    let ks = none_same s back k in
    let b : Bool = list_any (same_key s) mid in
    let maps : map f (front ++ (mid ++ back)) ≡ front ++ (map f mid ++ back) =
    simp (map-append, map-kept s front hs, map-kept s back ks) in
    rw (any-among (same_key s) front mid back hs ks, maps)
    (moved_out s front new (map f mid) (if b then [] else s ∷ []) back (own b) k e)
  where
    own : (b : Bool) → AllByRecursion (λ x. same_key s x ≡ true) (if b then [] else s ∷ [])
    own true = tt
    own false = (own_key_is s, tt)

-- a subscription joins, in turn
abbrev pub joining : (s : Subscription) → LocalEdit s
joining s = record { same = SameInTurn; edit = upsert s; local = joined-among s }

-- ## Changes of the same subscriptions in turn

stays_in : (s : Subscription) (g : Group) (x : Subscription)
    → is_in_group g (if same_key s x then s else x) ≡ is_in_group g x
stays_in s g x = pick (same_key s x) (λ t. rw t (sym (in_group_same s x g t))) (λ f. rw f)

-- lists that are the same in turn still are after a subscription joins both
pub joined-same : (s : Subscription) (xs ys : List Subscription) → SameInTurn xs ys
    → SameInTurn (upsert s xs) (upsert s ys)
joined-same s xs ys h =
    let f : Subscription → Subscription = λ x. if same_key s x then s else x in
    rw (list_any-SameElements (same_key s) xs ys h.elements)
    (same-append (map f xs) (map f ys) _ _ (same-map f (stays_in s) xs ys h) (same-itself _))

-- and after those that pass a test go last in both
pub put_last-same : (q : Subscription → Bool) (xs ys : List Subscription) → SameInTurn xs ys
    → SameInTurn (put_last q xs) (put_last q ys)
put_last-same q xs ys h =
    same-append _ _ _ _ (same-filter (λ x. not (q x)) xs ys h) (same-filter q xs ys h)

-- lists that are the same in turn still are after the same subscriptions go last in both
pub all_turned-same : (ss xs ys : List Subscription) → SameInTurn xs ys
    → SameInTurn (all_turned ss xs) (all_turned ss ys)
all_turned-same [] xs ys h = h
all_turned-same (s ∷ ss) xs ys h = all_turned-same ss _ _ (put_last-same (same_key s) xs ys h)

-- ## One among things that are seen as others

-- where tests agree, what is seen of an element takes its place among what is seen of the others
pub map-with_one : {X Y : Type 0} (f : X → Y) (p : X → Bool) (q : Y → Bool)
    → ((x : X) → q (f x) ≡ p x) → (x : X) (xs : List X)
    → map f (with_one p x xs) ≡ with_one q (f x) (map f xs)
map-with_one {X} {Y} f p q same x xs =
    rw (map-append, maps xs, list_any-map f q xs, list_any-same (λ y. q (f y)) p same xs)
    (pick (list_any p xs) (λ t. rw t) (λ n. rw n))
  where
    maps : (ys : List X) → map f (map (λ y. if p y then x else y) ys)
        ≡ map (λ y. if q y then f x else y) (map f ys)
    maps [] = refl
    maps (y ∷ ys) = pick (p y) (λ t. rw (same y, t, maps ys)) (λ n. rw (same y, n, maps ys))

-- and what is seen of those that go last goes last
pub map-put_last : {X Y : Type 0} (f : X → Y) (p : X → Bool) (q : Y → Bool)
    → ((x : X) → q (f x) ≡ p x) → (xs : List X) → map f (put_last p xs) ≡ put_last q (map f xs)
map-put_last f p q same xs =
    rw (map-append, ← map-filter f q xs, ← map-filter f (λ y. not (q y)) xs)
    (rw (filter-same (λ x. q (f x)) p same xs)
    (rw (filter-same (λ x. not (q (f x))) (λ x. not (p x)) (λ x. ap not (same x)) xs)))
