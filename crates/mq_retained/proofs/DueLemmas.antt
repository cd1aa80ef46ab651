-- Messages that are due: each pair that is due is that of one message, and where no pair is due no message is.
use Rattle.std.proofs.Common.{◌≡◌, ◌<◌, ◌≤◌, ℕ, suc, Bool, true, false, cond, not, nat_le, List, []}
use Rattle.std.proofs.Common.{◌∷◌, length, Option, Some, None, refl, sym, ◌∙◌, ap, subst, arith}
use Rattle.std.specs.declared.cmp.Ordering.TheVariants.{Less}
use Rattle.std.specs.Ordering.{is_eq}
use Rattle.std.specs.Option.{option_map, option_and_then, option_map_or}
use Rattle.std.specs.List.{filter, find, AllByRecursion}
use Rattle.std.specs.List.Sorted.{IsStrictlySortedBy}
use Rattle.std.specs.Map.{lookup, keys_of, remove_entry}
use Rattle.std.proofs.lemmas.Bool.{eq-eqb}
use Rattle.std.proofs.lemmas.Bool.Decides.{nat_tests}
use Rattle.mq_topic.specs.Levels.{levels, level_order}
use Rattle.mq_tree.specs.Entries.{Entries, is_key, AreInOrder}
use Rattle.mq_world.specs.Lists.{Text}
use Rattle.mq_world.specs.World.{Retained}
use Rattle.mq_world.specs.Retained.{has_topic}
use Rattle.mq_retained.specs.Deadlines.{is_due, Pair, Drops, TakesDue, NoneDue, deadline_at}
use Rattle.mq_retained.specs.Deadlines.{is_deadline}
use Rattle.mq_retained.specs.Stored.{message_in, retained_in, IsPlaced, IsSound}
use Rattle.mq_retained.proofs.RetainedLemmas.{Entry, Stands, view, key-is, found-retained}
use Rattle.mq_retained.proofs.FindLemmas.{topic-is, own-topic}
use Rattle.mq_retained.proofs.IndexLemmas.{pair_at, deadline-is, taken-sound}
use Rattle.mq_retained.specs.declared.retained.stored.Stored.{Stored}

some-lookup : (o : Option Stored) (d : ℕ)
    → option_and_then (λ (kept : Retained). kept.deadline) (option_map message_in o) ≡ Some d
    → (s : Stored) × (o ≡ Some s) × (s.deadline ≡ Some d)
some-lookup None d h = cc
some-lookup (Some s) d h = (s, refl, h)

-- the pair that is taken is that of a message
taken_deadline : (moment : ℕ) (topic : Text) (tree : Entries Stored) (pairs new : List Pair)
    (sound : IsSound tree pairs) (taken : TakesDue moment topic pairs new)
    → deadline_at topic (retained_in tree) ≡ Some taken.deadline
taken_deadline moment topic tree pairs new sound taken =
    deadline-is taken.deadline _ (sym (sound.indexed taken.deadline topic) ∙ taken.was_there)

-- tree and index fit each other still once a due pair and its message are gone
pub due-sound : (moment : ℕ) (topic : Text) (tree : Entries Stored) (pairs new : List Pair)
    → IsSound tree pairs → TakesDue moment topic pairs new
    → IsSound (remove_entry (is_key (levels topic)) tree) new
due-sound moment topic tree pairs new sound taken =
    taken-sound topic tree pairs new sound
    (subst (λ o. Drops (pair_at o topic) pairs new)
    (sym (taken_deadline moment topic tree pairs new sound taken)) taken.leaves)

-- the message at a key, which is due, and what is left without it
pub record OneDue (moment : ℕ) (tree rest : Entries Stored) : Type 0 where
  pub kept : filter (λ kept. not (is_due moment kept)) (retained_in rest)
      ≡ filter (λ kept. not (is_due moment kept)) (retained_in tree)
  pub count : suc (length (filter (is_due moment) (retained_in rest)))
      ≡ length (filter (is_due moment) (retained_in tree))
  pub fewer : suc (length rest) ≡ length tree

without_due : (moment : ℕ) (k : List (List ℕ)) (s : Stored) (tree : Entries Stored)
    → lookup (is_key k) tree ≡ Some s → is_due moment (message_in s) ≡ true
    → OneDue moment tree (remove_entry (is_key k) tree)
without_due moment k s [] found due = cc
without_due moment k s (e ∷ es) found due =
    let P : Bool → Type 0 = λ b. cond b (Some e.1) (lookup (is_key k) es) ≡ Some s
    → OneDue moment (e ∷ es) (cond b es (e ∷ remove_entry (is_key k) es)) in
    let here : P true = λ h. (
    let same : e.1 ≡ s = cc in
    let gone : is_due moment (view e) ≡ true = ap (λ t. is_due moment (message_in t)) same ∙ due in
    record { kept = rw gone refl; count = rw gone refl; fewer = refl }) in
    let there : P false = λ h. (
    let rest : OneDue moment es (remove_entry (is_key k) es) = without_due moment k s es h due in
    record {
      kept = ap (λ l. cond (not (is_due moment (view e))) (view e ∷ l) l) rest.kept;
      count = elim (is_due moment (view e))
          as (λ b. suc (length
          (cond b (view e ∷ filter (is_due moment) (retained_in (remove_entry (is_key k) es)))
          (filter (is_due moment) (retained_in (remove_entry (is_key k) es)))))
          ≡ length (cond b (view e ∷ filter (is_due moment) (retained_in es))
          (filter (is_due moment) (retained_in es)))) [
            | true ↦ ap suc rest.count
            | false ↦ rest.count
          ];
      fewer = ap suc rest.fewer;
    }) in
    (elim (is_key k e.0) as P [ true ↦ here | false ↦ there ]) found

-- a pair that is due is that of one message, and the others stay
pub one-due : (moment : ℕ) (topic : Text) (tree : Entries Stored) (pairs new : List Pair)
    → IsSound tree pairs → TakesDue moment topic pairs new
    → OneDue moment tree (remove_entry (is_key (levels topic)) tree)
one-due moment topic tree pairs new sound taken =
    let found : (s : Stored) × (lookup (is_key (levels topic)) tree ≡ Some s)
    × (s.deadline ≡ Some taken.deadline) =
    some-lookup (lookup (is_key (levels topic)) tree) taken.deadline
    (ap (option_and_then (λ (kept : Retained). kept.deadline))
    (found-retained topic tree sound.placed)
    ∙ taken_deadline moment topic tree pairs new sound taken) in
    let before : taken.deadline ≤ moment = taken.due in
    let late : nat_le taken.deadline moment ≡ true = grind (arith, nat_tests) in
    let due : is_due moment (message_in found.0) ≡ true =
    ap (λ o. option_map_or (λ deadline. nat_le deadline moment) o false) found.2 ∙ late in
    without_due moment (levels topic) found.0 tree found.1 due

-- nothing is due where no deadline that is found is
none_later : (e : Entry) (es : Entries Stored) (topic : Text) → Stands e → IsPlaced es
    → AllByRecursion (λ y. level_order e.0 y ≡ Less) (keys_of es) → has_topic topic (view e) ≡ true
    → find (has_topic topic) (retained_in es) ≡ None
none_later e [] topic h placed above own = refl
none_later e (x ∷ es) topic h placed above own =
    let same : levels topic ≡ e.0 = ap levels (sym (topic-is topic (view e) own)) ∙ sym h in
    let other : has_topic topic (view x) ≡ false = sym (key-is topic x placed.0)
    ∙ ap (λ k. is_eq (level_order k x.0)) same ∙ ap is_eq above.0 in
    rw other (none_later e es topic h placed.1 above.1 own)

not_late : (moment : ℕ) (deadline : Option ℕ)
    → ((d : ℕ) → is_deadline d deadline ≡ true → moment < d)
    → option_map_or (λ n. nat_le n moment) deadline false ≡ false
not_late moment None h = refl
not_late moment (Some n) h = let later : moment < n = h n (eq-eqb n n refl) in
    grind (arith, nat_tests)

-- no message is due if each deadline that a look-up can find is after the moment
pub nobody-due : (moment : ℕ) (tree : Entries Stored) → AreInOrder tree → IsPlaced tree
    → ((d : ℕ) (topic : Text) → is_deadline d (deadline_at topic (retained_in tree)) ≡ true
    → moment < d) → AllByRecursion (λ kept. is_due moment kept ≡ false) (retained_in tree)
unfolding IsStrictlySortedBy
nobody-due moment [] ordered placed later = tt
nobody-due moment (e ∷ es) ordered placed later =
    let own : (d : ℕ) → is_deadline d e.1.deadline ≡ true → moment < d =
    λ d h. later d e.1.topic.value
    (ap (λ b. is_deadline d (option_and_then (λ (k : Retained). k.deadline)
    (cond b (Some (view e)) (find (has_topic e.1.topic.value) (retained_in es)))))
    (own-topic (view e)) ∙ h) in
    let rest : (d : ℕ) (topic : Text) → is_deadline d (deadline_at topic (retained_in es)) ≡ true
    → moment < d = λ d topic h. (
    let P : Bool → Type 0 = λ b. has_topic topic (view e) ≡ b → moment < d in
    (elim (has_topic topic (view e)) as P [
      | true ↦ λ here. (let nothing : is_deadline d (deadline_at topic (retained_in es)) ≡ false =
          ap (λ o. is_deadline d (option_and_then (λ (k : Retained). k.deadline) o))
          (none_later e es topic placed.0 placed.1 ordered.0 here) in cc)
      | false ↦ λ apart. later d topic
          (ap (λ b. is_deadline d
          (option_and_then (λ (k : Retained). k.deadline)
          (cond b (Some (view e)) (find (has_topic topic) (retained_in es))))) apart ∙ h)
    ]) refl) in
    (not_late moment e.1.deadline own, nobody-due moment es ordered.1 placed.1 rest)

-- where none is due, all messages stay
pub none_due-kept : (moment : ℕ) (retained : List Retained)
    → AllByRecursion (λ kept. is_due moment kept ≡ false) retained
    → filter (λ kept. not (is_due moment kept)) retained ≡ retained
none_due-kept moment [] h = refl
none_due-kept moment (kept ∷ retained) h = rw (h.0, none_due-kept moment retained h.1) refl

-- where none is due, none is counted as due
pub none_due-count : (moment : ℕ) (retained : List Retained)
    → AllByRecursion (λ kept. is_due moment kept ≡ false) retained
    → length (filter (is_due moment) retained) ≡ 0
none_due-count moment [] h = refl
none_due-count moment (kept ∷ retained) h = rw (h.0, none_due-count moment retained h.1) refl

-- no message is due where no pair of the index is
pub sound-none-due : (moment : ℕ) (tree : Entries Stored) (pairs : List Pair) → IsSound tree pairs
    → NoneDue moment pairs → AllByRecursion (λ kept. is_due moment kept ≡ false) (retained_in tree)
sound-none-due moment tree pairs sound none =
    nobody-due moment tree sound.ordered sound.placed
    (λ d topic h. none d topic (sound.indexed d topic ∙ h))
