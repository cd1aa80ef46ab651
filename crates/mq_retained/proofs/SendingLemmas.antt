-- The copies of retained messages, as a loop over the messages that a filter matches makes them.
use Rattle.std.proofs.Common.{◌≡◌, ℕ, zero, suc, ◌+◌, ◌<◌, ◌^◌, Bool, true, false, cond, ◌&&◌, not}
use Rattle.std.proofs.Common.{Option, List, [], ◌∷◌, ◌++◌, map, length, take, get_or, refl, ◌∙◌, ap}
use Rattle.std.proofs.Common.{arith, sym}
use Rattle.std.specs.Option.{IfSome}
use Rattle.std.specs.List.{filter}
use Rattle.std.proofs.lemmas.List.{map_more, append-nil, map-append}
use Rattle.mq_acl.specs.AccessLists.{AccessList, allowed}
use Rattle.mq_world.specs.Lists.{Text, same_text}
use Rattle.mq_world.specs.World.{Subscription, Retained}
use Rattle.mq_world.specs.Copies.{filter_matches}
use Rattle.mq_retained.specs.Stored.{may_get, AreNear}
use Rattle.mq_world.specs.Retained.{is_sent, retained_copy, retained_copies}
use Rattle.mq_world.proofs.SameLemmas.{filter-filter}
use Rattle.mq_world.proofs.ListLemmas.{filter-same}
use Rattle.std.proofs.Math.Bool.{and_assoc}
use Rattle.mq_acl.specs.declared.access.Direction.TheVariants.{Reading}

filter-append : {X : Type 0} (p : X → Bool) (xs ys : List X)
    → filter p (xs ++ ys) ≡ filter p xs ++ filter p ys
filter-append p [] ys = refl
filter-append p (x ∷ xs) ys =
    elim (p x) as (λ b. cond b (x ∷ filter p (xs ++ ys)) (filter p (xs ++ ys))
    ≡ cond b (x ∷ filter p xs) (filter p xs) ++ filter p ys) [
      | true ↦ ap (λ l. x ∷ l) (filter-append p xs ys)
      | false ↦ filter-append p xs ys
    ]

module _ {X Y Z : Type 0} (f : X → Y) (p : Y → Bool) (g : Y → Z) where
  one_more : (xs : List X) (i : ℕ) (d : X) → i < length xs
      → map g (filter p (map f (take (i + 1) xs))) ≡ map g (filter p (map f (take i xs)))
      ++ map g (filter p (f (get_or xs i d) ∷ []))
  one_more xs i d h =
      ap (λ l. map g (filter p l)) (map_more f xs i d h)
      ∙ ap (map g) (filter-append p (map f (take i xs)) (f (get_or xs i d) ∷ []))
      ∙ map-append g (filter p (map f (take i xs))) (filter p (f (get_or xs i d) ∷ []))

  pub sent_more : (xs : List X) (i : ℕ) (d : X) → i < length xs → p (f (get_or xs i d)) ≡ true
      → map g (filter p (map f (take (i + 1) xs))) ≡ map g (filter p (map f (take i xs)))
      ++ g (f (get_or xs i d)) ∷ []
  sent_more xs i d h passes = one_more xs i d h ∙ rw passes refl

  pub held_more : (xs : List X) (i : ℕ) (d : X) → i < length xs → p (f (get_or xs i d)) ≡ false
      → map g (filter p (map f (take (i + 1) xs))) ≡ map g (filter p (map f (take i xs)))
  held_more xs i d h fails = one_more xs i d h
      ∙ rw fails (append-nil (map g (filter p (map f (take i xs)))))

-- a message among near ones has a near deadline
pub near_at : {X : Type 0} (f : X → Retained) (moment : ℕ) (xs : List X) (i : ℕ) (d : X)
    → AreNear moment (map f xs) → i < length xs
    → IfSome (f (get_or xs i d)).deadline (λ deadline. deadline < moment + 2 ^ 32)
near_at f moment [] i d near h = absurd (omega arith)
near_at f moment (x ∷ xs) zero d near h = near.0
near_at f moment (x ∷ xs) (suc i) d near h = near_at f moment xs i d near.1 (omega arith)

-- the messages that the filter matches are tested once more
pub sent-is : (moment : ℕ) (access : Option AccessList) (user : Option Text) (s : Subscription)
    (retained found : List Retained) → found
    ≡ filter (λ kept. filter_matches s.filter kept.topic) retained
    → map (retained_copy moment s) (filter (may_get access user s) found)
    ≡ retained_copies moment access user retained s
unfolding retained_copies
sent-is moment access user s retained found h =
    let able : Retained → Bool = λ kept. allowed access s.client user kept.topic Reading in
    let others : Retained → Bool =
    λ kept. not (s.options.no_local && same_text kept.publisher s.client) in
    ap (λ l. map (retained_copy moment s) (filter (may_get access user s) l)) h
    ∙ ap (map (retained_copy moment s))
    (filter-filter (may_get access user s) (λ kept. filter_matches s.filter kept.topic)
    retained)
    ∙ ap (map (retained_copy moment s))
    (filter-same _ (is_sent access user s)
    (λ kept. sym (and_assoc (filter_matches s.filter kept.topic) (able kept) (others kept)))
    retained)
