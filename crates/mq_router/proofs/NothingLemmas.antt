-- What is made of a message where no subscription matches its topic.
use Rattle.std.proofs.Common.{◌≡◌, ℕ, ◌==◌, true, true≢false, not, List, [], ◌∷◌, length, Option}
use Rattle.std.proofs.Common.{None, refl, sym, ◌∙◌, ap, arith}
use Rattle.std.specs.List.{filter, filter_map, cons_option}
use Rattle.mq_acl.specs.AccessLists.{AccessList}
use Rattle.mq_world.specs.Lists.{Text}
use Rattle.mq_world.specs.World.{Session, Subscription, Message}
use Rattle.mq_world.specs.Copies.{filter_matches, options_for, unshared_copy, unshared_copies}
use Rattle.mq_router.specs.delivery.Copies.{queued_by, gives_options}
use Rattle.mq_subscriptions.specs.Turns.{next_members, groups_among}
use Rattle.mq_world.proofs.SameLemmas.{some_pass}
use Rattle.mq_router.proofs.UnsharedCopies.{options-matching}
use Rattle.mq_router.proofs.GroupLemmas.{members-matching}

none-made : {X Y : Type 0} (f : X → Option Y) → ((x : X) → f x ≡ None) → (xs : List X)
    → filter_map f xs ≡ []
none-made f h [] = refl
none-made f h (x ∷ xs) = ap (λ o. cons_option o (filter_map f xs)) (h x) ∙ none-made f h xs

-- a list of length zero is empty
pub empty-is : {X : Type 0} (xs : List X) → (length xs == 0) ≡ true → xs ≡ []
empty-is [] h = refl
empty-is (x ∷ xs) h = absurd (true≢false (some_pass (length xs) ∙ ap not h))

module _ (access : Option AccessList) (sessions : List Session)
    (subscriptions : List Subscription) (m : Message)
    (none : filter (λ s. filter_matches s.filter m.topic) subscriptions ≡ []) where
  no-options : (id : Text) → options_for subscriptions m id ≡ []
  no-options id = sym (options-matching m id subscriptions) ∙ ap (gives_options m id) none

  no-copy : (id : Text) (user : Option Text) → unshared_copy access subscriptions m id user ≡ None
  no-copy id user = grind (arith, no-options)

  pub no-copies : unshared_copies access sessions subscriptions m ≡ []
  unfolding unshared_copies
  no-copies = none-made (λ (s : Session). unshared_copy access subscriptions m s.id s.user)
      (λ s. no-copy s.id s.user) sessions

  pub no-queued : (limit : ℕ) (deadline : Option ℕ)
      → queued_by limit access sessions subscriptions m deadline ≡ []
  no-queued limit deadline = grind (arith, none-made, no-copy)

  pub no-members : next_members access sessions subscriptions m ≡ []
  unfolding next_members groups_among
  no-members = sym (members-matching access sessions subscriptions m)
      ∙ ap (λ l. next_members access sessions l m) none
