-- Items by whom they are for.
use Rattle.std.proofs.Common.{◌≡◌, ℕ, Bool, true, false, not, ◌&&◌, ◌||◌, if◌then◌else◌, List, []}
use Rattle.std.proofs.Common.{◌∷◌, Option, Some, None, refl, ap, sym, ◌∙◌}
use Rattle.std.specs.List.{filter, list_any}
use Rattle.mq_acl.specs.Access.{applies}
use Rattle.mq_acl.specs.ByOwner.{IsGrouped, everyones, own_items}
use Rattle.mq_acl.specs.Rows.{Who, Anonymous, Named, Everyone}
use Rattle.mq_acl.specs.RowsByOwner.{is_own, is_everyones}
use Rattle.mq_acl.specs.declared.by_owner.ByOwner.{ByOwner}

-- a test of what a filter keeps
pub any_kept : {X : Type 0} (test keep : X → Bool) (xs : List X)
    → list_any test (filter keep xs) ≡ list_any (λ x. keep x && test x) xs
any_kept test keep [] = refl
any_kept test keep (x ∷ xs) =
    kept (keep x) ∙ ap (λ b. (keep x && test x) || b) (any_kept test keep xs)
  where
    kept : (b : Bool) → list_any test (if b then x ∷ filter keep xs else filter keep xs)
        ≡ ((b && test x) || list_any test (filter keep xs))
    kept true = refl
    kept false = refl

any_either : {X : Type 0} (p q : X → Bool) (xs : List X)
    → (list_any p xs || list_any q xs) ≡ list_any (λ x. p x || q x) xs
any_either p q [] = refl
any_either p q (x ∷ xs) =
    four (p x) (list_any p xs) (q x) (list_any q xs) ∙ ap (λ b. (p x || q x) || b) (any_either p q xs)
  where
    four : (a b c d : Bool) → ((a || b) || (c || d)) ≡ ((a || c) || (b || d))
    four true b c d = refl
    four false true true d = refl
    four false true false d = refl
    four false false c d = refl

applies_is : (user : Option (List ℕ)) (who : Who)
    → applies user who ≡ (is_everyones who || is_own user who)
applies_is None Anonymous = refl
applies_is (Some user) Anonymous = refl
applies_is None (Named name) = refl
applies_is (Some user) (Named name) = refl
applies_is None Everyone = refl
applies_is (Some user) Everyone = refl

one_of_two : (all own test : Bool) → ((all && test) || (own && test)) ≡ ((all || own) && test)
one_of_two true true true = refl
one_of_two true true false = refl
one_of_two true false true = refl
one_of_two true false false = refl
one_of_two false own test = refl

-- of the items that apply one passes a test just where one for all clients does, or one for this user alone
pub any_of_groups : {X : Type 0} (who : X → Who) (user : Option (List ℕ)) (test : X → Bool)
    (xs : List X) → (list_any test (filter (λ x. is_everyones (who x)) xs)
    || list_any test (filter (λ x. is_own user (who x)) xs))
    ≡ list_any (λ x. applies user (who x) && test x) xs
any_of_groups who user test xs =
    (λ i. any_kept test (λ x. is_everyones (who x)) xs i
    || any_kept test (λ x. is_own user (who x)) xs i)
    ∙ any_either (λ x. is_everyones (who x) && test x) (λ x. is_own user (who x) && test x) xs
    ∙ (λ i. list_any (λ x. (one_of_two (is_everyones (who x)) (is_own user (who x)) (test x)
    ∙ ap (λ a. a && test x) (sym (applies_is user (who x)))) i) xs)

-- where it is tried of the items for all clients, and then of those for this user alone
pub any_by_owner : {X : Type 0} (who : X → Who) (test : X → Bool) (user : Option (List ℕ))
    (all : List X) (by_owner : ByOwner X) → IsGrouped who all by_owner
    → (list_any test (everyones by_owner) || list_any test (own_items user by_owner))
    ≡ list_any (λ x. applies user (who x) && test x) all
any_by_owner who test user all by_owner grouped =
    (λ i. list_any test (grouped.everyone i) || list_any test (grouped.own user i))
    ∙ any_of_groups who user test all

-- where it is tried of the items for all clients, of those that pass another test and of the rest
pub any_for_all : {X : Type 0} (who : X → Who) (test keep : X → Bool) (all : List X)
    (kept rest : ByOwner X) → IsGrouped who (filter keep all) kept
    → IsGrouped who (filter (λ x. not (keep x)) all) rest
    → (list_any test (everyones kept) || list_any test (everyones rest))
    ≡ list_any (λ x. is_everyones (who x) && test x) all
any_for_all {X} who test keep all kept rest first second =
    (λ i. part keep kept first i || part (λ x. not (keep x)) rest second i)
    ∙ any_either (λ x. keep x && own x) (λ x. not (keep x) && own x) all
    ∙ (λ i. list_any (λ x. whole (keep x) (own x) i) all)
  where
    own : X → Bool
    own x = is_everyones (who x) && test x

    part : (p : X → Bool) (some : ByOwner X) → IsGrouped who (filter p all) some
        → list_any test (everyones some) ≡ list_any (λ x. p x && own x) all
    part p some grouped = ap (list_any test) grouped.everyone
        ∙ any_kept test (λ x. is_everyones (who x)) (filter p all) ∙ any_kept own p all

    whole : (k t : Bool) → ((k && t) || (not k && t)) ≡ t
    whole true true = refl
    whole true false = refl
    whole false t = refl
