-- Rows in the order of their keys, and a row put among them.
use Rattle.std.proofs.Common.{◌≡◌, ◌+◌, Bool, true, false, cond, ◌&&◌, List, [], ◌∷◌, ◌++◌, length}
use Rattle.std.proofs.Common.{Option, Some, None, refl, sym, ◌∙◌, ap, subst, arith}
use Rattle.std.specs.declared.cmp.Ordering.{Ordering}
use Rattle.std.specs.declared.cmp.Ordering.TheVariants.{Less, Equal, Greater}
use Rattle.std.specs.Ordering.{is_lt, is_eq, nat_cmp, on, then_cmp}
use Rattle.std.specs.Option.{option_cmp}
use Rattle.std.specs.Cmp.{IsTotalOrder, both_ways, tied_itself, tied_then}
use Rattle.std.specs.Cmp.Lexicographic.{slice_cmp, nat_list_cmp_total, lists_total, options_total}
use Rattle.std.specs.Cmp.Lexicographic.{on_texts}
use Rattle.std.proofs.lemmas.Cmp.{on_total, then_total}
use Rattle.std.specs.FinMap.{nat_cmp-IsAntisymmetric, slice_cmp-IsAntisymmetric}
use Rattle.std.specs.List.{filter, join_with_byte, AllByRecursion}
use Rattle.std.specs.List.Sorted.{IsStrictlySortedBy}
use Rattle.std.proofs.lemmas.List.Kept.{IsStrictlySortedBy-filter}
use Rattle.std.proofs.lemmas.Map.Text.{is_eq-slice_cmp}
use Rattle.std.proofs.lemmas.List.Splits.{join_with_byte-slice_split}
use Rattle.std.proofs.lemmas.Slice.Eq.{bytes_eq-Decides}
use Rattle.std.proofs.Math.Bool.{and_assoc}
use Rattle.mq_topic.specs.Levels.{levels, level_order}
use Rattle.mq_world.specs.Lists.{Text, same_text, text_cmp, with_row}
use Rattle.mq_world.specs.World.{Subscription, session_cmp, subscription_cmp, row_cmp, retained_cmp}
use Rattle.mq_world.specs.World.{group_cmp, same_share, has_key}

-- ## The orders

-- the order of sessions is total
pub session_total : IsTotalOrder session_cmp
session_total = on_texts (λ s. s.id)

-- the order of lists of levels is total
pub levels_total : IsTotalOrder level_order
levels_total = lists_total nat_list_cmp_total

-- the order of subscriptions is total
pub subscription_total : IsTotalOrder subscription_cmp
subscription_total =
    then_total (on_texts (λ s. s.client))
    (then_total (on_total (λ s. s.share) (options_total nat_list_cmp_total))
    (on_total (λ s. levels s.filter) levels_total))

-- the order of retained messages is total
pub retained_total : IsTotalOrder retained_cmp
retained_total = on_total (λ kept. levels kept.topic) levels_total

-- the order of groups is total
pub group_total : IsTotalOrder group_cmp
group_total = then_total (on_texts (λ g. g.share)) (on_total (λ g. levels g.filter) levels_total)

-- the order of rows is total
pub row_total : IsTotalOrder row_cmp
row_total = on_total (λ row. row.subscription) subscription_total

-- an ordering that tests as equal is `Equal`
pub equal_from : (r : Ordering) → is_eq r ≡ true → r ≡ Equal
equal_from Less h = cc
equal_from Equal h = refl
equal_from Greater h = cc

-- an ordering that tests as less is `Less`
pub less_from : (r : Ordering) → is_lt r ≡ true → r ≡ Less
less_from Less h = refl
less_from Equal h = cc
less_from Greater h = cc

-- a text is given by its levels
pub same_levels : (a b : Text) → levels a ≡ levels b → a ≡ b
same_levels a b h = sym (join_with_byte-slice_split 47 a) ∙ ap (join_with_byte 47) h
    ∙ join_with_byte-slice_split 47 b

-- two texts are equal in level order just where they are the same
pub level_equal : (a b : Text) → is_eq (level_order (levels a) (levels b)) ≡ same_text a b
level_equal a b = both_ways _ _
    (λ h. (bytes_eq-Decides a b).1
    (same_levels a b (slice_cmp-IsAntisymmetric
    (slice_cmp-IsAntisymmetric nat_cmp-IsAntisymmetric) (levels a) (levels b)
    (equal_from _ h))))
    (λ h. (let e : a ≡ b = (bytes_eq-Decides a b).0 h in
    subst (λ (t : Text). is_eq (level_order (levels a) (levels t)) ≡ true) e
    (ap is_eq (tied_itself levels_total (levels a)))))

-- the test for the same text says the same both ways round
pub text_flip : (a b : Text) → same_text a b ≡ same_text b a
text_flip a b = both_ways _ _
    (λ h. (bytes_eq-Decides b a).1 (sym ((bytes_eq-Decides a b).0 h)))
    (λ h. (bytes_eq-Decides a b).1 (sym ((bytes_eq-Decides b a).0 h)))

-- two shares, each a text or none, tie in their order just where they are the same
pub share_equal : (a b : Option Text) → is_eq (option_cmp text_cmp a b) ≡ same_share a b
share_equal None None = refl
share_equal None (Some b) = refl
share_equal (Some a) None = refl
share_equal (Some a) (Some b) = is_eq-slice_cmp a b

-- only a subscription with the key ties
pub tied_is : (x s : Subscription) → is_eq (subscription_cmp x s)
    ≡ has_key s.client s.share s.filter x
tied_is x s =
    let levels_tie : Bool = is_eq (level_order (levels x.filter) (levels s.filter)) in
    let rest : Ordering = then_cmp (on (λ (y : Subscription). y.share) (option_cmp text_cmp))
    (on (λ y. levels y.filter) level_order) x s in
    sym (tied_then (slice_cmp nat_cmp x.client s.client) rest)
    ∙ ap (λ b. b && is_eq rest) (is_eq-slice_cmp x.client s.client)
    ∙ ap (λ b. same_text x.client s.client && b)
    (sym (tied_then (option_cmp text_cmp x.share s.share)
    (level_order (levels x.filter) (levels s.filter))))
    ∙ ap (λ b. same_text x.client s.client && (b && levels_tie)) (share_equal x.share s.share)
    ∙ ap (λ b. same_text x.client s.client && (same_share x.share s.share && b))
    (level_equal x.filter s.filter)
    ∙ sym (and_assoc (same_text x.client s.client) (same_share x.share s.share)
    (same_text x.filter s.filter))

-- ## A row put among rows in order leaves them in order

-- each element that a filter keeps passes its test
pub all_passed : {X : Type 0} (p : X → Bool) (xs : List X)
    → AllByRecursion (λ x. p x ≡ true) (filter p xs)
all_passed p [] = tt
all_passed p (x ∷ xs) =
    let P : Bool → Type 0 = λ b. p x ≡ b
    → AllByRecursion (λ y. p y ≡ true) (cond b (x ∷ filter p xs) (filter p xs)) in
    (elim (p x) as P [ true ↦ λ h. (h, all_passed p xs) | false ↦ λ h. all_passed p xs ]) refl

-- where P implies Q, a list whose elements all have P is one whose elements all have Q
pub all_weaker : {X : Type 0} (P Q : X → Type 0) → ((x : X) → P x → Q x) → (xs : List X)
    → AllByRecursion P xs → AllByRecursion Q xs
all_weaker P Q f [] h = tt
all_weaker P Q f (x ∷ xs) h = (f x h.0, all_weaker P Q f xs h.1)

-- what holds of all elements of two lists holds of all elements of the joined list
pub all_append : {X : Type 0} (P : X → Type 0) (xs ys : List X) → AllByRecursion P xs
    → AllByRecursion P ys → AllByRecursion P (xs ++ ys)
all_append P [] ys h k = k
all_append P (x ∷ xs) ys h k = (h.0, all_append P xs ys h.1 k)

-- what holds of all elements holds of all that a filter keeps
pub all_filtered : {X : Type 0} (P : X → Type 0) (p : X → Bool) (xs : List X) → AllByRecursion P xs
    → AllByRecursion P (filter p xs)
all_filtered P p [] h = tt
all_filtered P p (x ∷ xs) h =
    elim (p x) as (λ b. AllByRecursion P (cond b (x ∷ filter p xs) (filter p xs)))
    [ true ↦ (h.0, all_filtered P p xs h.1) | false ↦ all_filtered P p xs h.1 ]

module _ {X : Type 0} (cmp : X → X → Ordering) (o : IsTotalOrder cmp) where
  joined : (front : List X) (x : X) (bs : List X) → IsStrictlySortedBy cmp front
      → AllByRecursion (λ a. cmp a x ≡ Less) front → AllByRecursion (λ b. cmp x b ≡ Less) bs
      → IsStrictlySortedBy cmp bs → IsStrictlySortedBy cmp (front ++ x ∷ bs)
  unfolding IsStrictlySortedBy
  joined [] x bs s below above t = (above, t)
  joined (a ∷ front) x bs s below above t = (
    all_append (λ y. cmp a y ≡ Less) front (x ∷ bs) s.0 (
      below.0,
      all_weaker (λ b. cmp x b ≡ Less) (λ b. cmp a b ≡ Less)
          (λ b h. o.trans a x b below.0 h) bs above,
    ),
    joined front x bs s.1 below.1 above t,
  )

  pub sorted-with_row : (x : X) (xs : List X) → IsStrictlySortedBy cmp xs
      → IsStrictlySortedBy cmp (with_row cmp x xs)
  unfolding with_row
  sorted-with_row x xs s =
      joined (filter (λ other. is_lt (cmp other x)) xs) x (filter (λ other. is_lt (cmp x other)) xs)
      (IsStrictlySortedBy-filter cmp (λ other. is_lt (cmp other x)) xs s)
      (all_weaker (λ y. is_lt (cmp y x) ≡ true) (λ y. cmp y x ≡ Less) (λ y h. less_from _ h) _
      (all_passed (λ other. is_lt (cmp other x)) xs))
      (all_weaker (λ y. is_lt (cmp x y) ≡ true) (λ y. cmp x y ≡ Less) (λ y h. less_from _ h) _
      (all_passed (λ other. is_lt (cmp x other)) xs))
      (IsStrictlySortedBy-filter cmp (λ other. is_lt (cmp x other)) xs s)

  pub all-with_row : (P : X → Type 0) (x : X) (xs : List X) → P x → AllByRecursion P xs
      → AllByRecursion P (with_row cmp x xs)
  unfolding with_row
  all-with_row P x xs here h =
      all_append P (filter (λ other. is_lt (cmp other x)) xs)
      (x ∷ filter (λ other. is_lt (cmp x other)) xs)
      (all_filtered P (λ other. is_lt (cmp other x)) xs h)
      (here, all_filtered P (λ other. is_lt (cmp x other)) xs h)

-- ## Before a subscription, and behind it

abbrev pub before : Subscription → Subscription → Bool
before s x = is_lt (subscription_cmp x s)

abbrev pub behind : Subscription → Subscription → Bool
behind s x = is_lt (subscription_cmp s x)

-- a filter keeps as many of a joined list as of its two parts together
pub length-filter-append : {X : Type 0} (p : X → Bool) (xs ys : List X)
    → length (filter p (xs ++ ys)) ≡ length (filter p xs) + length (filter p ys)
length-filter-append p [] ys = omega arith
length-filter-append p (x ∷ xs) ys =
    let h : length (filter p (xs ++ ys)) ≡ length (filter p xs) + length (filter p ys) =
    length-filter-append p xs ys in
    elim (p x) as (λ b. length (cond b (x ∷ filter p (xs ++ ys)) (filter p (xs ++ ys)))
    ≡ length (cond b (x ∷ filter p xs) (filter p xs)) + length (filter p ys)) [
      | true ↦ omega arith
      | false ↦ h
    ]

-- shares that test as the same are equal
pub same_share-is : (a b : Option Text) → same_share a b ≡ true → a ≡ b
same_share-is None None h = refl
same_share-is None (Some b) h = cc
same_share-is (Some a) None h = cc
same_share-is (Some a) (Some b) h = ap (λ t. Some t) ((bytes_eq-Decides a b).0 h)

-- texts that test as the same are equal
pub same_text-is : (a b : Text) → same_text a b ≡ true → a ≡ b
same_text-is a b h = (bytes_eq-Decides a b).0 h

-- a text tests as the same as itself
pub same_text-itself : (a : Text) → same_text a a ≡ true
same_text-itself a = (bytes_eq-Decides a a).1 refl
