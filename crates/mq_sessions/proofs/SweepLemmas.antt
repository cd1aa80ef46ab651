-- The index of the ends of sessions, as it is swept.
use Rattle.std.proofs.Common.{◌≡◌, ◌+◌, ◌≤◌, Bool, true, false, true≢false, cond, ◌||◌}
use Rattle.std.proofs.Common.{List, [], ◌∷◌, ◌++◌, length, Some, None, is_some}
use Rattle.std.proofs.Common.{refl, sym, ◌∙◌, ap, subst, arith, length-append}
use Rattle.std.specs.Option.{option_map_or}
use Rattle.std.specs.List.{filter, list_any}
use Rattle.std.proofs.Math.Bool.{or-true, or-false, or_assoc}
use Rattle.std.proofs.lemmas.Bool.{or_parts}
use Rattle.mq_world.specs.World.{Session}
use Rattle.mq_world.proofs.BoolLemmas.{pick}
use Rattle.mq_world.proofs.ListLemmas.{any-append}
use Rattle.mq_sessions.specs.Dues.{Due, first_of, same_due, is_in, AreWith, AreRest}
use Rattle.mq_sessions.specs.Ends.{AreListed, ending, end_of, has_end, is_ending}
use Rattle.mq_sessions.proofs.EndLemmas.{listed-more, listed-without, or_right, with-new, with-old}
use Rattle.mq_sessions.proofs.HeapLemmas.{same-due-is}

-- ## Ends

-- with an end, what has the same end has it too
same-in : (x d : Due) (dues : List Due) → same_due x d ≡ true → is_in x dues ≡ is_in d dues
same-in x d dues h = ap (λ y. is_in y dues) (same-due-is x d h)

-- ## Tests that more sessions pass

wider : {X : Type 0} (p q : X → Bool) → ((x : X) → p x ≡ true → q x ≡ true) → (xs : List X)
    → length (filter p xs) ≤ length (filter q xs)
wider p q step [] = omega arith
wider p q step (x ∷ xs) =
    let rest : length (filter p xs) ≤ length (filter q xs) = wider p q step xs in
    let P : Bool → Type 0 = λ b. p x ≡ b → length (cond b (x ∷ filter p xs) (filter p xs))
    ≤ length (cond (q x) (x ∷ filter q xs) (filter q xs)) in
    (elim (p x) as P [
      | true ↦ λ h. rw (step x h) (omega (arith, rest))
      | false ↦ λ h. (elim (q x) as (λ b. length (filter p xs)
          ≤ length (cond b (x ∷ filter q xs) (filter q xs)))
          [ true ↦ omega (arith, rest) | false ↦ rest ])
    ]) refl

-- where one passes the second test that fails the first, one more does
one-more : {X : Type 0} (p q r : X → Bool) → ((x : X) → p x ≡ true → q x ≡ true)
    → ((x : X) → r x ≡ true → p x ≡ false) → ((x : X) → r x ≡ true → q x ≡ true)
    → (xs : List X) → list_any r xs ≡ true
    → length (filter p xs) + 1 ≤ length (filter q xs)
one-more p q r step fails passes [] any = absurd (true≢false (sym any))
one-more p q r step fails passes (x ∷ xs) any =
    pick (r x)
    (λ t. rw (fails x t, passes x t) (
    let rest : length (filter p xs) ≤ length (filter q xs) = wider p q step xs in
    omega (arith, rest)))
    (λ f. (
    let rest : length (filter p xs) + 1 ≤ length (filter q xs) =
    one-more p q r step fails passes xs (or_right (r x) (list_any r xs) f any) in
    let P : Bool → Type 0 = λ b. p x ≡ b → length (cond b (x ∷ filter p xs) (filter p xs)) + 1
    ≤ length (cond (q x) (x ∷ filter q xs) (filter q xs)) in
    (elim (p x) as P [
      | true ↦ λ h. rw (step x h) (omega (arith, rest))
      | false ↦ λ h. (elim (q x) as (λ b. length (filter p xs) + 1
          ≤ length (cond b (x ∷ filter q xs) (filter q xs)))
          [ true ↦ omega (arith, rest) | false ↦ rest ])
    ]) refl))

-- ## What is moved

-- the session's end was moved
abbrev is_moved : List Due → Session → Bool
is_moved live s = option_map_or (λ end. is_in (end, s.id) live) (end_of s) false

-- of an index that is swept, what is left and what was moved: each end that was moved is a session's, and no two are
-- the same one's
pub record AreSwept (dues live : List Due) (ss : List Session) : Type 0 where
  pub listed : AreListed (dues ++ live) ss
  pub apart : (due : Due) → is_in due live ≡ true → is_in due dues ≡ false
  pub few : length live ≤ length (filter (is_moved live) ss)

-- nothing is moved yet
pub swept-none : (dues live : List Due) (ss : List Session) → live ≡ [] → AreListed dues ss
    → AreSwept dues live ss
swept-none dues live ss none listed = subst (λ l. AreSwept dues l ss) (sym none) (record {
  listed = listed-more dues (dues ++ []) (λ d h. any-append (same_due d) dues []
      ∙ or-false (is_in d dues) ∙ h) ss listed;
  apart = λ d h. absurd (true≢false (sym h));
  few = omega arith;
})

moved-ends : (live : List Due) (s : Session) → is_moved live s ≡ true → is_ending s ≡ true
moved-ends live s =
    elim (end_of s) as (λ o. option_map_or (λ end. is_in (end, s.id) live) o false ≡ true
    → is_some o ≡ true) [
      | None ↦ λ h. h
      | Some end ↦ λ h. refl
    ]

-- nothing is left
pub swept-listed : (dues live : List Due) (ss : List Session) → None ≡ first_of dues
    → AreSwept dues live ss → AreListed live ss
swept-listed [] live ss none h = h.listed
swept-listed (d ∷ ds) live ss none h = cc

pub swept-few : (dues live : List Due) (ss : List Session) → AreSwept dues live ss
    → length live ≤ length (ending ss)
swept-few dues live ss h =
    let most = wider (is_moved live) is_ending (moved-ends live) ss in
    omega (arith, h.few, most)

-- ## A step

-- the first end with those behind it
pub with-rest : (f : Due) (dues rest : List Due) → Some f ≡ first_of dues → AreRest dues rest
    → AreWith f rest dues
with-rest f [] rest first left = cc
with-rest f (d ∷ ds) rest first left = subst (λ x. AreWith x rest (d ∷ ds)) same left
  where
    same : d ≡ f
    same = cc

with_more : (d : Due) (rest dues live : List Due) → AreWith d rest dues
    → AreWith d (rest ++ live) (dues ++ live)
with_more d rest dues live h = record {
  count = (let a = length-append rest live in let b = length-append dues live in
      omega (arith, h.count, a, b));
  tests = λ test. any-append test dues live
      ∙ ap (λ b. b || list_any test live) (h.tests test)
      ∙ or_assoc (test d) (list_any test rest) (list_any test live)
      ∙ ap (λ b. test d || b) (sym (any-append test rest live));
}

still_apart : (x d : Due) (rest dues : List Due) → AreWith d rest dues → is_in x dues ≡ false
    → is_in x rest ≡ false
still_apart x d rest dues h none = (or_parts (same_due x d) _ (sym (h.tests (same_due x)) ∙ none)).1

-- the end stands there twice, and one is dropped
pub swept-twice : (d : Due) (rest dues live : List Due) (ss : List Session) → AreWith d rest dues
    → true ≡ is_in d rest → AreSwept dues live ss → AreSwept rest live ss
swept-twice d rest dues live ss left again h = record {
  listed = listed-more (dues ++ live) (rest ++ live) step ss h.listed;
  apart = λ x k. still_apart x d rest dues left (h.apart x k);
  few = h.few;
}
  where
    step : (x : Due) → is_in x (dues ++ live) ≡ true → is_in x (rest ++ live) ≡ true
    step x k =
        let all : (same_due x d || is_in x (rest ++ live)) ≡ true =
        sym ((with_more d rest dues live left).tests (same_due x)) ∙ k in
        pick (same_due x d)
        (λ t. any-append (same_due x) rest live
        ∙ ap (λ b. b || is_in x live) (same-in x d rest t ∙ sym again))
        (λ f. or_right (same_due x d) (is_in x (rest ++ live)) f all)

-- the end is no session's, and is dropped
pub swept-dead : (d : Due) (rest dues live : List Due) (ss : List Session) → AreWith d rest dues
    → false ≡ list_any (has_end d) ss → AreSwept dues live ss → AreSwept rest live ss
swept-dead d rest dues live ss left none h = record {
  listed = listed-without d (dues ++ live) (rest ++ live) ss (with_more d rest dues live left)
      (sym none) h.listed;
  apart = λ x k. still_apart x d rest dues left (h.apart x k);
  few = h.few;
}

-- the end is a session's, and is moved
pub swept-live : (d : Due) (rest dues live more : List Due) (ss : List Session)
    → AreWith d rest dues → false ≡ is_in d rest → true ≡ list_any (has_end d) ss
    → AreWith d live more → AreSwept dues live ss → AreSwept rest more ss
swept-live d rest dues live more ss left once some moved h = record {
  listed = listed-more (dues ++ live) (rest ++ more) step ss h.listed;
  apart = λ x k. pick (same_due x d)
      (λ t. same-in x d rest t ∙ sym once)
      (λ f. still_apart x d rest dues left
      (h.apart x (or_right (same_due x d) (is_in x live) f (sym (moved.tests (same_due x)) ∙ k))));
  few = (
      let grown = one-more (is_moved live) (is_moved more) (has_end d) stays new_one there ss
      (sym some) in
      omega (arith, h.few, moved.count, grown));
}
  where
    step : (x : Due) → is_in x (dues ++ live) ≡ true → is_in x (rest ++ more) ≡ true
    step x k =
        any-append (same_due x) rest more
        ∙ pick (same_due x d)
        (λ t. ap (λ b. is_in x rest || b) (moved.tests (same_due x)
        ∙ ap (λ b. b || is_in x live) t) ∙ or-true (is_in x rest))
        (λ f. ap (λ b. is_in x rest || b) (moved.tests (same_due x)
        ∙ ap (λ b. b || is_in x live) f) ∙ sym (any-append (same_due x) rest live)
        ∙ or_right (same_due x d) (is_in x (rest ++ live)) f
        (sym ((with_more d rest dues live left).tests (same_due x)) ∙ k))

    not_moved : is_in d live ≡ false
    not_moved = pick (is_in d live)
        (λ t. absurd (true≢false (sym (with-new d rest dues left) ∙ h.apart d t))) (λ f. f)

    stays : (s : Session) → is_moved live s ≡ true → is_moved more s ≡ true
    stays s = elim (end_of s) as (λ o. option_map_or (λ end. is_in (end, s.id) live) o false ≡ true
        → option_map_or (λ end. is_in (end, s.id) more) o false ≡ true) [
          | None ↦ λ k. k
          | Some end ↦ λ k. with-old d live more moved (end, s.id) k
        ]

    new_one : (s : Session) → has_end d s ≡ true → is_moved live s ≡ false
    new_one s = elim (end_of s)
        as (λ o. option_map_or (λ end. same_due (end, s.id) d) o false ≡ true
        → option_map_or (λ end. is_in (end, s.id) live) o false ≡ false) [
          | None ↦ λ k. refl
          | Some end ↦ λ k. same-in (end, s.id) d live k ∙ not_moved
        ]

    there : (s : Session) → has_end d s ≡ true → is_moved more s ≡ true
    there s = elim (end_of s)
        as (λ o. option_map_or (λ end. same_due (end, s.id) d) o false ≡ true
        → option_map_or (λ end. is_in (end, s.id) more) o false ≡ true) [
          | None ↦ λ k. k
          | Some end ↦ λ k. same-in (end, s.id) d more k ∙ with-new d live more moved
        ]
