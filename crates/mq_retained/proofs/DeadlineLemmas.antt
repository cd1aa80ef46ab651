-- The pairs of the index by deadline: one that joins, one that leaves, and the first one.
use Rattle.std.proofs.Common.{◌≡◌, ◌<◌, ◌≤◌, ℕ, eqb, Bool, true, false, ◌&&◌, ◌||◌, not, List, []}
use Rattle.std.proofs.Common.{◌∷◌, map, Some, refl, sym, ◌∙◌, ap, arith}
use Rattle.std.specs.declared.cmp.Ordering.{Ordering}
use Rattle.std.specs.declared.cmp.Ordering.TheVariants.{Less, Equal, Greater}
use Rattle.std.specs.Ordering.{is_eq, is_gt, on, then_cmp, nat_cmp, match_ordering}
use Rattle.std.specs.Cmp.{IsTotalOrder, tied_then}
use Rattle.std.specs.Cmp.Lexicographic.{on_texts}
use Rattle.std.proofs.lemmas.Cmp.{on_total, then_total, nat_cmp_total, ranked}
use Rattle.std.proofs.lemmas.Bool.{eqb-true, eq-eqb, and_parts}
use Rattle.std.proofs.lemmas.Bool.Decides.{nat_tests}
use Rattle.std.proofs.lemmas.Map.Text.{is_eq-slice_cmp}
use Rattle.std.proofs.lemmas.Map.Views.{any-filter_same}
use Rattle.std.proofs.lemmas.Slice.Eq.{bytes_eq-Decides}
use Rattle.std.specs.BTreeMap.{is_at}
use Rattle.std.specs.BTreeSet.{insert_key}
use Rattle.std.specs.Set.{remove_key}
use Rattle.std.specs.BTreeMap.Range.{IsLeBy, IsLtBy}
use Rattle.std.specs.List.{filter, slice_get, AllByRecursion}
use Rattle.std.specs.List.Sorted.{IsStrictlySortedBy}
use Rattle.mq_topic.proofs.BoolLemmas.{or_swapped}
use Rattle.mq_world.specs.Lists.{Text, same_text, text_cmp}
use Rattle.mq_retained.specs.Deadlines.{Pair, is_pair, has_pair, Drops, TakesDue, NoneDue}
use Rattle.mq_retained.specs.Due.{due_of}
use Rattle.mq_world.proofs.ListLemmas.{list_any-map, remove_key-filter}
use Rattle.mq_world.proofs.OrderLemmas.{equal_from}
use Rattle.mq_world.proofs.BoolLemmas.{or_again}
use Rattle.mq_retained.specs.declared.retained.deadlines.Due.{Due}

-- ## The order of the pairs

abbrev pub due_cmp : Due → Due → Ordering
due_cmp = then_cmp (on (λ due. due.deadline) nat_cmp) (on (λ due. due.topic.value) text_cmp)

due_total : IsTotalOrder due_cmp
due_total = then_total (on_total (λ due. due.deadline) nat_cmp_total) (on_texts (λ due. due.topic.value))

same_numbers : (a b : ℕ) → is_eq (nat_cmp a b) ≡ eqb a b
same_numbers a b = grind (arith, nat_tests)

-- a key ties with those of its pair alone
tied_is : (a b : Due) → is_eq (due_cmp a b) ≡ is_pair b.deadline b.topic.value (due_of a)
tied_is a b =
    sym (tied_then (nat_cmp a.deadline b.deadline) (text_cmp a.topic.value b.topic.value))
    ∙ ap (λ v. v && is_eq (text_cmp a.topic.value b.topic.value)) (same_numbers a.deadline b.deadline)
    ∙ ap (λ v. eqb a.deadline b.deadline && v) (is_eq-slice_cmp a.topic.value b.topic.value)

-- a pair that passes the test is the one that it tests for
pub pair-is : (d : ℕ) (topic : Text) (p : Pair) → is_pair d topic p ≡ true → p ≡ (d, topic)
pair-is d topic (n, t) h =
    let parts : (eqb n d ≡ true) × (same_text t topic ≡ true) = and_parts _ _ h in
    let number : n ≡ d = eqb-true n d parts.0 in
    let text : t ≡ topic = (bytes_eq-Decides t topic).0 parts.1 in
    ap (λ m. (m, t)) number ∙ ap (λ s. (d, s)) text

-- a pair passes its own test
pub own-pair : (d : ℕ) (topic : Text) → is_pair d topic (d, topic) ≡ true
own-pair d topic = rw (eq-eqb d d refl, (bytes_eq-Decides topic topic).1 refl) refl

tied-pairs : (a b : Due) → due_cmp a b ≡ Equal → due_of a ≡ due_of b
tied-pairs a b h = pair-is b.deadline b.topic.value (due_of a) (sym (tied_is a b) ∙ ap is_eq h)

-- ## A pair that joins

-- a pair is in the index after an insert if it is the new one or was there
pub has-insert : (due : Due) (dues : List Due) (d : ℕ) (topic : Text)
    → has_pair d topic (map due_of (insert_key due_cmp dues due))
    ≡ (is_pair d topic (due_of due) || has_pair d topic (map due_of dues))
has-insert due [] d topic = refl
has-insert due (x ∷ xs) d topic =
    let P : Ordering → Type 0 = λ r. due_cmp due x ≡ r
    → has_pair d topic
    (map due_of (match_ordering r (due ∷ x ∷ xs) (x ∷ xs) (x ∷ insert_key due_cmp xs due)))
    ≡ (is_pair d topic (due_of due) || has_pair d topic (map due_of (x ∷ xs))) in
    let rest : Bool = has_pair d topic (map due_of xs) in
    (elim (due_cmp due x) as P [
      | Less ↦ λ h. refl
      | Equal ↦ λ h. or_again (is_pair d topic (due_of x)) rest
          ∙ ap (λ p. is_pair d topic p || (is_pair d topic (due_of x) || rest))
          (sym (tied-pairs due x h))
      | Greater ↦ λ h. ap (λ b. is_pair d topic (due_of x) || b) (has-insert due xs d topic)
          ∙ or_swapped (is_pair d topic (due_of x)) (is_pair d topic (due_of due)) rest
    ]) refl

-- ## A pair that leaves

apart : (due x y : Due) → is_at (due_cmp due) x ≡ true → due_cmp x y ≡ Less
    → is_at (due_cmp due) y ≡ false
apart due x y h k = ap is_eq (due_total.congr due x y (equal_from _ h) ∙ k)

removed-is : (due : Due) (dues : List Due) → IsStrictlySortedBy due_cmp dues
    → remove_key (is_at (due_cmp due)) dues ≡ filter (λ x. not (is_at (due_cmp due) x)) dues
removed-is due dues s = remove_key-filter due_cmp (is_at (due_cmp due)) (apart due) dues s

-- the pair of a key that is removed leaves the index, and no other
pub has-remove : (due : Due) (dues : List Due) → IsStrictlySortedBy due_cmp dues
    → Drops (Some (due_of due)) (map due_of dues)
    (map due_of (remove_key (is_at (due_cmp due)) dues))
has-remove due dues s = λ d topic.
    let other : (x : Due) → is_pair d topic (due_of x) ≡ true
    → not (is_at (due_cmp due) x) ≡ not (is_pair d topic (due_of due)) = λ x h.
    (let named : due_of x ≡ (d, topic) = pair-is d topic (due_of x) h in
    ap not (tied_is due x ∙ ap (λ (p : Pair). is_pair p.0 p.1 (due_of due)) named)) in
    ap (λ l. has_pair d topic (map due_of l)) (removed-is due dues s)
    ∙ list_any-map due_of (is_pair d topic) (filter (λ x. not (is_at (due_cmp due) x)) dues)
    ∙ any-filter_same (λ x. is_pair d topic (due_of x)) (λ x. not (is_at (due_cmp due) x))
    (not (is_pair d topic (due_of due))) other dues
    ∙ ap (λ b. not (is_pair d topic (due_of due)) && b)
    (sym (list_any-map due_of (is_pair d topic) dues))

-- ## The first pair

-- no pair after the first is like it
first-apart : (first : Due) (dues : List Due) → AllByRecursion (IsLtBy due_cmp first) dues
    → has_pair first.deadline first.topic.value (map due_of dues) ≡ false
first-apart first [] h = refl
first-apart first (x ∷ xs) h =
    let tied : is_pair first.deadline first.topic.value (due_of x) ≡ false = sym (tied_is x first)
    ∙ ap is_eq (due_total.antisymm x first) ∙ rw h.0 refl in
    rw (tied, first-apart first xs h.1) refl

-- the first pair, if it is due, is taken out as one that is due
pub first-taken : (moment : ℕ) (first : Due) (dues : List Due) → first.deadline ≤ moment
    → AllByRecursion (IsLtBy due_cmp first) dues
    → TakesDue moment first.topic.value (map due_of (first ∷ dues)) (map due_of dues)
first-taken moment first dues due above = record {
  deadline = first.deadline;
  due = due;
  was_there = ap (λ b. b || has_pair first.deadline first.topic.value (map due_of dues))
      (own-pair first.deadline first.topic.value);
  leaves = λ d topic.
      let rest : Bool = has_pair d topic (map due_of dues) in
      let P : Bool → Type 0 = λ b. is_pair d topic (due_of first) ≡ b
      → rest ≡ (not b && (b || rest)) in
      let here : P true = λ h. (let named : due_of first ≡ (d, topic) =
      pair-is d topic (due_of first) h in
      ap (λ (p : Pair). has_pair p.0 p.1 (map due_of dues)) (sym named)
      ∙ first-apart first dues above) in
      (elim (is_pair d topic (due_of first)) as P [ true ↦ here | false ↦ λ h. refl ]) refl;
}

not_below : (a b : Due) → IsLeBy due_cmp a b → a.deadline ≤ b.deadline
not_below a b h =
    let P : Ordering → Type 0 = λ r. r ≡ nat_cmp a.deadline b.deadline → a.deadline ≤ b.deadline in
    (elim (nat_cmp a.deadline b.deadline) as P [
      | Less ↦ λ e. (let less : a.deadline < b.deadline = ranked a.deadline b.deadline Less e in
          omega arith)
      | Equal ↦ λ e. (let same : a.deadline ≡ b.deadline = ranked a.deadline b.deadline Equal e in
          omega arith)
      | Greater ↦ λ e. (let above : is_gt (due_cmp a b) ≡ true = rw (← e) refl in cc)
    ]) refl

-- nothing is due if the first deadline is after the moment
pub none-due : (moment : ℕ) (first : Due) (dues : List Due) → moment < first.deadline
    → AllByRecursion (IsLeBy due_cmp first) dues → NoneDue moment (map due_of dues)
none-due moment first [] h above = λ d topic k. cc
none-due moment first (x ∷ xs) h above = λ d topic k.
    let P : Bool → Type 0 = λ b. is_pair d topic (due_of x) ≡ b
    → (b || has_pair d topic (map due_of xs)) ≡ true → moment < d in
    (elim (is_pair d topic (due_of x)) as P [
      | true ↦ λ here _. (let number : x.deadline ≡ d =
          ap (λ (p : Pair). p.0) (pair-is d topic (due_of x) here) in
          let least : first.deadline ≤ x.deadline = not_below first x above.0 in omega arith)
      | false ↦ λ _ later. none-due moment first xs h above.1 d topic later
    ]) refl k

-- the item at index 0 is the first of the list
pub head-is : (dues : List Due) (first : Due) (rest : List Due) (due : Due) → dues ≡ first ∷ rest
    → slice_get dues 0 ≡ Some due → due ≡ first
head-is dues first rest due whole got =
    let here : Some due ≡ Some first = sym got ∙ ap (λ l. slice_get l 0) whole in
    cc
