-- The message that is found for a topic, after an edit.
use Rattle.std.proofs.Common.{◌≡◌, Bool, true, false, cond, not, List, [], ◌∷◌, ◌++◌, Some, None}
use Rattle.std.proofs.Common.{refl, sym, ◌∙◌, ap}
use Rattle.std.specs.declared.cmp.Ordering.{Ordering}
use Rattle.std.specs.declared.cmp.Ordering.TheVariants.{Less, Equal, Greater}
use Rattle.std.specs.Ordering.{is_eq, is_lt, ordering_reverse}
use Rattle.std.specs.Option.{option_and_then}
use Rattle.std.specs.List.{filter, find}
use Rattle.std.proofs.lemmas.Slice.Eq.{bytes_eq-Decides}
use Rattle.mq_topic.specs.Levels.{levels, level_order}
use Rattle.mq_world.specs.Lists.{Text, same_text, with_row}
use Rattle.mq_world.specs.World.{Retained, retained_cmp}
use Rattle.mq_world.specs.Retained.{has_topic}
use Rattle.mq_retained.specs.Deadlines.{deadline_at}
use Rattle.mq_world.proofs.OrderLemmas.{levels_total, level_equal, text_flip}

find-filter_all : {X : Type 0} (p q : X → Bool) → ((x : X) → p x ≡ true → q x ≡ true)
    → (xs : List X) → find p (filter q xs) ≡ find p xs
find-filter_all p q h [] = refl
find-filter_all p q h (x ∷ xs) =
    let rest : find p (filter q xs) ≡ find p xs = find-filter_all p q h xs in
    let P : Bool → Type 0 = λ b. p x ≡ b → find p (cond (q x) (x ∷ filter q xs) (filter q xs))
    ≡ cond b (Some x) (find p xs) in
    (elim (p x) as P [
      | true ↦ λ e. rw (h x e, e) refl
      | false ↦ λ e.
          (elim (q x) as (λ b. find p (cond b (x ∷ filter q xs) (filter q xs)) ≡ find p xs)
          [ true ↦ rw e rest | false ↦ rest ])
    ]) refl

find-filter_none : {X : Type 0} (p q : X → Bool) → ((x : X) → p x ≡ true → q x ≡ false)
    → (xs : List X) → find p (filter q xs) ≡ None
find-filter_none p q h [] = refl
find-filter_none p q h (x ∷ xs) =
    let rest : find p (filter q xs) ≡ None = find-filter_none p q h xs in
    let P : Bool → Type 0 = λ b. p x ≡ b → find p (cond (q x) (x ∷ filter q xs) (filter q xs))
    ≡ None in
    (elim (p x) as P [
      | true ↦ λ e. rw (h x e) rest
      | false ↦ λ e. (elim (q x) as (λ b. find p (cond b (x ∷ filter q xs) (filter q xs)) ≡ None)
          [ true ↦ rw e rest | false ↦ rest ])
    ]) refl

find-past : {X : Type 0} (p : X → Bool) (xs : List X) (y : X) (ys : List X) → find p xs ≡ None
    → find p (xs ++ y ∷ ys) ≡ cond (p y) (Some y) (find p ys)
find-past p [] y ys h = refl
find-past p (x ∷ xs) y ys h =
    let P : Bool → Type 0 = λ b. cond b (Some x) (find p xs) ≡ None
    → cond b (Some x) (find p (xs ++ y ∷ ys)) ≡ cond (p y) (Some y) (find p ys) in
    (elim (p x) as P [ true ↦ λ e. cc | false ↦ λ e. find-past p xs y ys e ]) h

find-within : {X : Type 0} (p : X → Bool) (xs : List X) (y : X) (ys : List X) → p y ≡ false
    → find p ys ≡ None → find p (xs ++ y ∷ ys) ≡ find p xs
find-within p [] y ys e h = rw e h
find-within p (x ∷ xs) y ys e h = ap (cond (p x) (Some x)) (find-within p xs y ys e h)

-- a message that passes the test for a topic has that topic
pub topic-is : (topic : Text) (kept : Retained) → has_topic topic kept ≡ true → kept.topic ≡ topic
topic-is topic kept h = (bytes_eq-Decides kept.topic topic).0 h

-- a message has its own topic
pub own-topic : (kept : Retained) → has_topic kept.topic kept ≡ true
own-topic kept = (bytes_eq-Decides kept.topic kept.topic).1 refl

-- a message among the others is found at its topic, and the others as before
pub find-with_row : (topic : Text) (kept : Retained) (retained : List Retained)
    → find (has_topic topic) (with_row retained_cmp kept retained)
    ≡ cond (has_topic topic kept) (Some kept) (find (has_topic topic) retained)
unfolding with_row
find-with_row topic kept retained =
    let before : Retained → Bool = λ other. is_lt (retained_cmp other kept) in
    let behind : Retained → Bool = λ other. is_lt (retained_cmp kept other) in
    let ahead : (x : Retained) → has_topic topic x ≡ true
    → before x ≡ is_lt (level_order (levels topic) (levels kept.topic)) =
    λ x h. ap (λ t. is_lt (level_order (levels t) (levels kept.topic))) (topic-is topic x h) in
    let after : (x : Retained) → has_topic topic x ≡ true
    → behind x ≡ is_lt (ordering_reverse (level_order (levels topic) (levels kept.topic))) =
    λ x h. ap (λ t. is_lt (level_order (levels kept.topic) (levels t))) (topic-is topic x h)
    ∙ ap is_lt (levels_total.antisymm (levels kept.topic) (levels topic)) in
    let tied : is_eq (level_order (levels topic) (levels kept.topic)) ≡ has_topic topic kept =
    level_equal topic kept.topic ∙ text_flip topic kept.topic in
    let P : Ordering → Type 0 = λ o. level_order (levels topic) (levels kept.topic) ≡ o
    → find (has_topic topic) (filter before retained ++ kept ∷ filter behind retained)
    ≡ cond (has_topic topic kept) (Some kept) (find (has_topic topic) retained) in
    (elim (level_order (levels topic) (levels kept.topic)) as P [
      | Less ↦ λ o. (
          let apart : has_topic topic kept ≡ false = sym tied ∙ ap is_eq o in
          let nobody : find (has_topic topic) (filter behind retained) ≡ None =
          find-filter_none (has_topic topic) behind
          (λ x h. after x h ∙ ap (λ r. is_lt (ordering_reverse r)) o) retained in
          find-within (has_topic topic) (filter before retained) kept (filter behind retained) apart
          nobody
          ∙ find-filter_all (has_topic topic) before (λ x h. ahead x h ∙ ap is_lt o) retained
          ∙ rw apart refl)
      | Equal ↦ λ o. (
          let here : has_topic topic kept ≡ true = sym tied ∙ ap is_eq o in
          find-past (has_topic topic) (filter before retained) kept (filter behind retained)
          (find-filter_none (has_topic topic) before (λ x h. ahead x h ∙ ap is_lt o) retained)
          ∙ rw here refl)
      | Greater ↦ λ o. (
          let apart : has_topic topic kept ≡ false = sym tied ∙ ap is_eq o in
          find-past (has_topic topic) (filter before retained) kept (filter behind retained)
          (find-filter_none (has_topic topic) before (λ x h. ahead x h ∙ ap is_lt o) retained)
          ∙ ap (cond (has_topic topic kept) (Some kept))
          (find-filter_all (has_topic topic) behind
          (λ x h. after x h ∙ ap (λ r. is_lt (ordering_reverse r)) o) retained))
    ]) refl

-- after a message is put, its topic has its deadline, and other topics have theirs
pub deadline-with_row : (topic : Text) (kept : Retained) (retained : List Retained)
    → deadline_at topic (with_row retained_cmp kept retained)
    ≡ cond (has_topic topic kept) kept.deadline (deadline_at topic retained)
deadline-with_row topic kept retained =
    ap (option_and_then (λ (k : Retained). k.deadline)) (find-with_row topic kept retained)
    ∙ elim (has_topic topic kept)
    as (λ b. option_and_then (λ (k : Retained). k.deadline)
    (cond b (Some kept) (find (has_topic topic) retained))
    ≡ cond b kept.deadline (deadline_at topic retained)) [ true ↦ refl | false ↦ refl ]

-- a message that is removed is not found, and the others as before
pub deadline-without : (topic gone : Text) (retained : List Retained)
    → deadline_at topic (filter (λ kept. not (has_topic gone kept)) retained)
    ≡ cond (same_text gone topic) None (deadline_at topic retained)
deadline-without topic gone retained =
    let others : (x : Retained) → has_topic topic x ≡ true
    → not (has_topic gone x) ≡ not (same_text gone topic) = λ x h.
    ap not (ap (λ t. same_text t gone) (topic-is topic x h) ∙ text_flip topic gone) in
    let P : Bool → Type 0 = λ b. same_text gone topic ≡ b
    → deadline_at topic (filter (λ kept. not (has_topic gone kept)) retained)
    ≡ cond b None (deadline_at topic retained) in
    (elim (same_text gone topic) as P [
      | true ↦ λ e. ap (option_and_then (λ (k : Retained). k.deadline))
          (find-filter_none (has_topic topic) (λ kept. not (has_topic gone kept))
          (λ x h. others x h ∙ ap not e) retained)
      | false ↦ λ e. ap (option_and_then (λ (k : Retained). k.deadline))
          (find-filter_all (has_topic topic) (λ kept. not (has_topic gone kept))
          (λ x h. others x h ∙ ap not e) retained)
    ]) refl
