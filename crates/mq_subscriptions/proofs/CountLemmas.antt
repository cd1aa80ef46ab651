-- The number of the subscriptions, after one joined, went last or left.
use Rattle.std.proofs.Common.{◌≡◌, ◌+◌, ◌≤◌, ℕ, min, Bool, true, false, true≢false, not, List, []}
use Rattle.std.proofs.Common.{◌∷◌, ◌++◌, map, length, filter, if◌then◌else◌, refl, sym, ◌∙◌, ap}
use Rattle.std.proofs.Common.{append-nil, arith, rules}
use Rattle.std.specs.List.{list_any}
use Rattle.std.proofs.lemmas.List.{length-map}
use Rattle.std.proofs.lemmas.List.Filters.{length-filter_both}
use Rattle.mq_topic.specs.Prefixes.{capped}
use Rattle.mq_world.specs.Lists.{SameElements}
use Rattle.mq_world.specs.World.{Subscription, same_key}
use Rattle.mq_world.specs.Turns.{SameInTurn}
use Rattle.mq_subscriptions.specs.Turns.{put_last, upsert}
use Rattle.mq_subscriptions.specs.Filters.{AreCounted}
use Rattle.mq_world.proofs.BoolLemmas.{pick}
use Rattle.mq_world.proofs.ListLemmas.{map-filter, filter-same, filter-none, filter-kept, none-any}
use Rattle.mq_world.proofs.ListLemmas.{length-filter-most}
use Rattle.mq_world.proofs.OrderLemmas.{length-filter-append}
use Rattle.mq_world.proofs.SameLemmas.{length-SameElements, filter-swap}
use Rattle.mq_subscriptions.proofs.AnyLemmas.{there, key_placed}
use Rattle.mq_subscriptions.proofs.InTurn.{map-kept}
use Rattle.mq_subscriptions.proofs.OneServed.{turned-elements}

-- the same subscriptions in another order are counted as they were
counted-same : (count : ℕ) (old new : List Subscription) → SameElements new old
    → AreCounted count old → AreCounted count new
counted-same count old new same h = record {
  once = λ s. rw (same (same_key s)) (h.once s);
  number = h.number ∙ ap capped (sym (length-SameElements new old same));
}

-- so they are where one went last
pub counted-turned : (count : ℕ) (x : Subscription) (old new : List Subscription)
    → SameInTurn new (put_last (same_key x) old) → AreCounted count old → AreCounted count new
counted-turned count x old new turned h =
    counted-same count old new
    (λ p. turned.elements p ∙ turned-elements (x ∷ []) old p) h

-- ## One that joins

abbrev placed : Subscription → List Subscription → List Subscription
placed x rows = map (λ y. if same_key x y then x else y) rows

placed-once : (x s : Subscription) (rows : List Subscription)
    → length (filter (same_key s) (placed x rows)) ≡ length (filter (same_key s) rows)
placed-once x s rows =
    rw (← map-filter (λ y. if same_key x y then x else y) (same_key s) rows)
    (length-map (filter (λ y. same_key s (if same_key x y then x else y)) rows)
    (λ y. if same_key x y then x else y)
    ∙ ap length (filter-same (λ y. same_key s (if same_key x y then x else y)) (same_key s)
    (key_placed x s) rows))

-- one in the place of another leaves the number as it was
pub counted-again : (count : ℕ) (x : Subscription) (old new : List Subscription)
    → list_any (same_key x) old ≡ true → SameInTurn new (upsert x old)
    → AreCounted count old → AreCounted count new
counted-again count x old new has joins h =
    let again : upsert x old ≡ placed x old = rw has (append-nil (placed x old)) in
    counted-same count (placed x old) new
    (λ p. joins.elements p ∙ ap (λ l. length (filter p l)) again) (record {
      once = λ s. rw (placed-once x s old) (h.once s);
      number = h.number
          ∙ ap capped (sym (length-map old (λ y. if same_key x y then x else y)));
    })

-- one more, up to the greatest number
capped-more : (n : ℕ) → min (capped n + 1) 18446744073709551615 ≡ capped (n + 1)
capped-more n = search (rules, arith)

longer : (x : Subscription) (rows : List Subscription) → length (rows ++ x ∷ []) ≡ length rows + 1
longer x [] = refl
longer x (y ∷ rows) = omega (arith, longer x rows)

-- where none has its key, one that joins is one more
pub counted-new : (count : ℕ) (x : Subscription) (old new : List Subscription)
    → list_any (same_key x) old ≡ false → SameInTurn new (upsert x old)
    → AreCounted count old → AreCounted (min (count + 1) 18446744073709551615) new
counted-new count x old new none joins h =
    let added : upsert x old ≡ old ++ x ∷ [] =
    rw (none, map-kept x old (none-any (same_key x) old none)) in
    counted-same (min (count + 1) 18446744073709551615) (old ++ x ∷ []) new
    (λ p. joins.elements p ∙ ap (λ l. length (filter p l)) added) (record {
      once = once;
      number = ap (λ n. min (n + 1) 18446744073709551615) h.number ∙ capped-more (length old)
          ∙ ap capped (sym (longer x old));
    })
  where
    once : (s : Subscription) → length (filter (same_key s) (old ++ x ∷ [])) ≤ 1
    once s =
        rw (length-filter-append (same_key s) old (x ∷ []))
        (pick (same_key s x)
        (λ t. rw (
          t,
          filter-none (same_key s) old
              (none-any (same_key s) old (there s x old t ∙ none)),
        ) (omega arith))
        (λ n. rw n (omega (arith, h.once s))))

-- ## One that leaves

some-pass : {X : Type 0} (p : X → Bool) (xs : List X) → list_any p xs ≡ true
    → 1 ≤ length (filter p xs)
some-pass p [] h = absurd (true≢false (sym h))
some-pass p (x ∷ xs) h =
    pick (p x) (λ t. rw t (omega arith)) (λ n. rw n (some-pass p xs (rw n at h)))

-- where one has the key, all are one more than those without it
pub one-fewer : (count : ℕ) (x : Subscription) (rows : List Subscription) → AreCounted count rows
    → list_any (same_key x) rows ≡ true
    → count ≡ capped (length (filter (λ s. not (same_key x s)) rows) + 1)
one-fewer count x rows h has =
    let parts = length-filter_both (same_key x) (λ s. not (same_key x s)) (λ s. refl) rows in
    let some = some-pass (same_key x) rows has in
    let once = h.once x in
    let fewer : length rows ≡ length (filter (λ s. not (same_key x s)) rows) + 1 = omega arith in
    h.number ∙ ap capped fewer

-- those that stay are counted by their number
pub counted-rest : (count rest : ℕ) (x : Subscription) (rows : List Subscription)
    → AreCounted count rows → rest ≡ capped (length (filter (λ s. not (same_key x s)) rows))
    → AreCounted rest (filter (λ s. not (same_key x s)) rows)
counted-rest count rest x rows h number = record {
  once = λ s. rw (filter-swap (same_key s) (λ y. not (same_key x y)) rows)
      (omega (
        arith,
        h.once s,
        length-filter-most (λ y. not (same_key x y)) (filter (same_key s) rows),
      ));
  number = number;
}

-- where none has the key, all stay
pub none-fewer : (count : ℕ) (x : Subscription) (rows : List Subscription) → AreCounted count rows
    → list_any (same_key x) rows ≡ false → AreCounted count (filter (λ s. not (same_key x s)) rows)
none-fewer count x rows h none =
    rw (filter-kept (same_key x) rows (none-any (same_key x) rows none)) h
