-- The pairs of the index beside the messages: what an edit of both leaves.
use Rattle.std.proofs.Common.{◌≡◌, ◌≢◌, ℕ, Bool, true, false, cond, ◌&&◌, ◌||◌, not, List, Option}
use Rattle.std.proofs.Common.{Some, None, refl, sym, ◌∙◌, ap, subst}
use Rattle.std.specs.Option.{option_map, option_and_then, option_eq}
use Rattle.std.specs.Bool.{nat_eq}
use Rattle.std.specs.List.{filter}
use Rattle.std.specs.BTreeMap.{insert_entry}
use Rattle.std.specs.Map.{lookup, remove_entry}
use Rattle.std.proofs.lemmas.Bool.{and_parts, eqb-true, eq-eqb}
use Rattle.std.proofs.lemmas.Slice.Eq.{bytes_eq-Decides}
use Rattle.mq_topic.specs.Levels.{levels, level_order}
use Rattle.mq_tree.specs.Entries.{Entries, is_key, AreInOrder}
use Rattle.mq_world.specs.Lists.{Text, same_text, with_row}
use Rattle.mq_world.specs.World.{Retained, retained_cmp}
use Rattle.mq_world.specs.Retained.{has_topic}
use Rattle.mq_retained.specs.Deadlines.{Pair, has_pair, names, Adds, Drops, deadline_at}
use Rattle.mq_retained.specs.Deadlines.{is_deadline, Indexes, SamePairs}
use Rattle.mq_retained.specs.Stored.{message_in, retained_in, IsPlaced, IsSound}
use Rattle.mq_retained.proofs.RetainedLemmas.{found-retained, found-topic}
use Rattle.mq_retained.proofs.RetainedLemmas.{put-retained, put-ordered, put-placed}
use Rattle.mq_retained.proofs.RetainedLemmas.{take-retained, take-ordered, take-placed}
use Rattle.mq_retained.proofs.FindLemmas.{topic-is, deadline-with_row, deadline-without}
use Rattle.mq_retained.specs.declared.retained.stored.Stored.{Stored}

-- ## The pairs after an edit

abbrev pub pair_at : Option ℕ → Text → Option Pair
pair_at deadline topic = option_map (λ d. (d, topic)) deadline

names-is : (deadline : Option ℕ) (gone : Text) (d : ℕ) (topic : Text)
    → names (pair_at deadline gone) d topic ≡ (is_deadline d deadline && same_text gone topic)
names-is None gone d topic = refl
names-is (Some n) gone d topic = refl

-- a deadline that passes the test is there, and is the one that it tests for
pub deadline-is : (d : ℕ) (deadline : Option ℕ) → is_deadline d deadline ≡ true → deadline ≡ Some d
deadline-is d None h = cc
deadline-is d (Some n) h = ap (λ m. Some m) (eqb-true n d h)

same_deadline : (o : Bool) → ((o && true) || o) ≡ o
same_deadline true = refl
same_deadline false = refl

other_deadline : (n o : Bool) → (o ≡ true → n ≡ true → false ≡ true)
    → (not (o && true) && ((n && true) || o)) ≡ n
other_deadline true true h = h refl refl
other_deadline false true h = refl
other_deadline true false h = refl
other_deadline false false h = refl

elsewhere : (n o h : Bool) → (not (o && false) && ((n && false) || h)) ≡ h
elsewhere true true h = refl
elsewhere true false h = refl
elsewhere false true h = refl
elsewhere false false h = refl

elsewhere_once : (n h : Bool) → ((n && false) || h) ≡ h
elsewhere_once true h = refl
elsewhere_once false h = refl

-- at the topic of a message that is put, or elsewhere
pub put-same-indexed : (kept : Retained) (retained : List Retained) (pairs new : List Pair)
    → Indexes pairs retained → deadline_at kept.topic retained ≡ kept.deadline
    → Adds (pair_at kept.deadline kept.topic) pairs new
    → Indexes new (with_row retained_cmp kept retained)
put-same-indexed kept retained pairs new indexed same adds = λ d topic.
    let P : Bool → Type 0 = λ b. same_text kept.topic topic ≡ b
    → ((is_deadline d kept.deadline && b) || is_deadline d (deadline_at topic retained))
    ≡ is_deadline d (cond b kept.deadline (deadline_at topic retained)) in
    let here : P true = λ e. (let found : deadline_at topic retained ≡ kept.deadline =
    ap (λ t. deadline_at t retained) (sym (topic-is topic kept e)) ∙ same in
    ap (λ o. (is_deadline d kept.deadline && true) || is_deadline d o) found
    ∙ same_deadline (is_deadline d kept.deadline)) in
    adds d topic
    ∙ ap (λ b. b || has_pair d topic pairs) (names-is kept.deadline kept.topic d topic)
    ∙ ap (λ b. (is_deadline d kept.deadline && same_text kept.topic topic) || b) (indexed d topic)
    ∙ (elim (same_text kept.topic topic) as P [
      | true ↦ here
      | false ↦ λ e. elsewhere_once (is_deadline d kept.deadline)
          (is_deadline d (deadline_at topic retained))
    ]) refl
    ∙ ap (is_deadline d) (sym (deadline-with_row topic kept retained))

-- a message replaces one with another deadline: its pair joins, and the older pair leaves
pub put-other-indexed : (kept : Retained) (retained : List Retained) (pairs added new : List Pair)
    → Indexes pairs retained → deadline_at kept.topic retained ≢ kept.deadline
    → Adds (pair_at kept.deadline kept.topic) pairs added
    → Drops (pair_at (deadline_at kept.topic retained) kept.topic) added new
    → Indexes new (with_row retained_cmp kept retained)
put-other-indexed kept retained pairs added new indexed other adds drops = λ d topic.
    let older : Option ℕ = deadline_at kept.topic retained in
    let P : Bool → Type 0 = λ b. same_text kept.topic topic ≡ b
    → (not (is_deadline d older && b)
    && ((is_deadline d kept.deadline && b) || is_deadline d (deadline_at topic retained)))
    ≡ is_deadline d (cond b kept.deadline (deadline_at topic retained)) in
    let here : P true = λ e. (
    let found : deadline_at topic retained ≡ older =
    ap (λ t. deadline_at t retained) (sym (topic-is topic kept e)) in
    ap (λ o. not (is_deadline d older && true)
    && ((is_deadline d kept.deadline && true) || is_deadline d o)) found
    ∙ other_deadline (is_deadline d kept.deadline) (is_deadline d older)
    (λ p q. absurd (other (deadline-is d older p ∙ sym (deadline-is d kept.deadline q))))) in
    drops d topic
    ∙ ap (λ b. not (names (pair_at older kept.topic) d topic) && b) (adds d topic)
    ∙ ap (λ b. not b && (names (pair_at kept.deadline kept.topic) d topic
    || has_pair d topic pairs)) (names-is older kept.topic d topic)
    ∙ ap (λ b. not (is_deadline d older && same_text kept.topic topic)
    && (b || has_pair d topic pairs)) (names-is kept.deadline kept.topic d topic)
    ∙ ap (λ b. not (is_deadline d older && same_text kept.topic topic)
    && ((is_deadline d kept.deadline && same_text kept.topic topic) || b)) (indexed d topic)
    ∙ (elim (same_text kept.topic topic) as P [
      | true ↦ here
      | false ↦ λ e. elsewhere (is_deadline d kept.deadline) (is_deadline d older)
          (is_deadline d (deadline_at topic retained))
    ]) refl
    ∙ ap (is_deadline d) (sym (deadline-with_row topic kept retained))

undone : (n h : Bool) → (n ≡ true → h ≡ false) → (not n && (n || h)) ≡ h
undone true h e = sym (e refl)
undone false h e = refl

-- a pair of a topic without a message joins and leaves again
pub put-undone-indexed : (deadline : Option ℕ) (gone : Text) (retained : List Retained)
    (pairs added new : List Pair) → Indexes pairs retained → deadline_at gone retained ≡ None
    → Adds (pair_at deadline gone) pairs added → Drops (pair_at deadline gone) added new
    → Indexes new retained
put-undone-indexed deadline gone retained pairs added new indexed absent adds drops = λ d topic.
    let nobody : names (pair_at deadline gone) d topic ≡ true → has_pair d topic pairs ≡ false =
    λ h.
    (let here : gone ≡ topic = (bytes_eq-Decides gone topic).0
    (and_parts (is_deadline d deadline) (same_text gone topic)
    (sym (names-is deadline gone d topic) ∙ h)).1 in
    indexed d topic ∙ ap (λ t. is_deadline d (deadline_at t retained)) (sym here)
    ∙ ap (is_deadline d) absent) in
    drops d topic ∙ ap (λ b. not (names (pair_at deadline gone) d topic) && b) (adds d topic)
    ∙ undone (names (pair_at deadline gone) d topic) (has_pair d topic pairs) nobody
    ∙ indexed d topic

no_longer : (o : Bool) → (not (o && true) && o) ≡ false
no_longer true = refl
no_longer false = refl

elsewhere_still : (o h : Bool) → (not (o && false) && h) ≡ h
elsewhere_still true h = refl
elsewhere_still false h = refl

-- the index fits once both the message of a topic and its pair are gone
pub taken-indexed : (gone : Text) (retained : List Retained) (pairs new : List Pair)
    → Indexes pairs retained → Drops (pair_at (deadline_at gone retained) gone) pairs new
    → Indexes new (filter (λ kept. not (has_topic gone kept)) retained)
taken-indexed gone retained pairs new indexed drops = λ d topic.
    let older : Option ℕ = deadline_at gone retained in
    let P : Bool → Type 0 = λ b. same_text gone topic ≡ b
    → (not (is_deadline d older && b) && is_deadline d (deadline_at topic retained))
    ≡ is_deadline d (cond b None (deadline_at topic retained)) in
    let here : P true = λ e. (
    let found : deadline_at topic retained ≡ older =
    ap (λ t. deadline_at t retained) (sym ((bytes_eq-Decides gone topic).0 e)) in
    ap (λ o. not (is_deadline d older && true) && is_deadline d o) found
    ∙ no_longer (is_deadline d older)) in
    drops d topic
    ∙ ap (λ b. not b && has_pair d topic pairs) (names-is older gone d topic)
    ∙ ap (λ b. not (is_deadline d older && same_text gone topic) && b) (indexed d topic)
    ∙ (elim (same_text gone topic) as P [
      | true ↦ here
      | false ↦ λ e. elsewhere_still (is_deadline d older)
          (is_deadline d (deadline_at topic retained))
    ]) refl
    ∙ ap (is_deadline d) (sym (deadline-without topic gone retained))

option_eq-same : (a : Option ℕ) → option_eq nat_eq a a ≡ true
option_eq-same None = refl
option_eq-same (Some n) = eq-eqb n n refl

option_eq-is : (a b : Option ℕ) → option_eq nat_eq a b ≡ true → a ≡ b
option_eq-is None None h = refl
option_eq-is None (Some n) h = cc
option_eq-is (Some n) None h = cc
option_eq-is (Some n) (Some m) h = ap (λ k. Some k) (eqb-true n m h)

-- the pair of the older message, unless it is the new one
abbrev pub replaced : Option ℕ → Option ℕ → Text → Option Pair
replaced older new topic = cond (option_eq nat_eq older new) None (pair_at older topic)

-- a message is put: its pair joins, and the older pair leaves unless it is the same
pub put-indexed : (kept : Retained) (retained : List Retained) (pairs added new : List Pair)
    → Indexes pairs retained → Adds (pair_at kept.deadline kept.topic) pairs added
    → Drops (replaced (deadline_at kept.topic retained) kept.deadline kept.topic) added new
    → Indexes new (with_row retained_cmp kept retained)
put-indexed kept retained pairs added new indexed adds drops =
    let older : Option ℕ = deadline_at kept.topic retained in
    let P : Bool → Type 0 = λ b. option_eq nat_eq older kept.deadline ≡ b
    → Drops (cond b None (pair_at older kept.topic)) added new
    → Indexes new (with_row retained_cmp kept retained) in
    (elim (option_eq nat_eq older kept.deadline) as P [
      | true ↦ λ e h. put-same-indexed kept retained pairs new indexed (option_eq-is _ _ e)
          (λ d topic. h d topic ∙ adds d topic)
      | false ↦ λ e h. put-other-indexed kept retained pairs added new indexed (λ same. (
          let yes : option_eq nat_eq older kept.deadline ≡ true =
          ap (λ (o : Option ℕ). option_eq nat_eq o kept.deadline) same
          ∙ option_eq-same kept.deadline in
          cc)) adds h
    ]) refl drops

-- ## Tree and index after an edit

-- to store a message in the tree is to put it among the messages
pub stored-retained : (s : Stored) (kept : Retained) (tree : Entries Stored) → message_in s ≡ kept
    → IsPlaced tree → AreInOrder tree
    → retained_in (insert_entry level_order tree (levels kept.topic) s)
    ≡ with_row retained_cmp kept (retained_in tree)
stored-retained s kept tree same placed ordered =
    put-retained (levels kept.topic) s tree (ap (λ (k : Retained). levels k.topic) (sym same))
    placed ordered
    ∙ ap (λ k. with_row retained_cmp k (retained_in tree)) same

-- tree and index fit each other after a message is stored and its pair has joined
pub stored-sound : (s : Stored) (kept : Retained) (tree : Entries Stored)
    (pairs added new : List Pair) → message_in s ≡ kept → IsSound tree pairs
    → Adds (pair_at kept.deadline kept.topic) pairs added
    → Drops (replaced (deadline_at kept.topic (retained_in tree)) kept.deadline kept.topic) added
    new → IsSound (insert_entry level_order tree (levels kept.topic) s) new
stored-sound s kept tree pairs added new same sound adds drops =
    let here : levels kept.topic ≡ levels s.topic.value =
    ap (λ (k : Retained). levels k.topic) (sym same) in
    record {
      ordered = put-ordered (levels kept.topic) s tree sound.ordered;
      placed = put-placed (levels kept.topic) s tree here sound.placed;
      indexed = subst (λ retained. Indexes new retained)
          (sym (stored-retained s kept tree same sound.placed sound.ordered))
          (put-indexed kept (retained_in tree) pairs added new sound.indexed adds drops);
    }

-- a pair that joined and left again, as the message was not stored, leaves all sound
pub undone-sound : (deadline : Option ℕ) (topic : Text) (tree : Entries Stored)
    (pairs added new : List Pair) → lookup (is_key (levels topic)) tree ≡ None → IsSound tree pairs
    → Adds (pair_at deadline topic) pairs added → Drops (pair_at deadline topic) added new
    → IsSound tree new
undone-sound deadline topic tree pairs added new absent sound adds drops =
    let nobody : deadline_at topic (retained_in tree) ≡ None =
    ap (option_and_then (λ (kept : Retained). kept.deadline))
    (sym (found-retained topic tree sound.placed) ∙ ap (option_map message_in) absent) in
    record {
      ordered = sound.ordered;
      placed = sound.placed;
      indexed = put-undone-indexed deadline topic (retained_in tree) pairs added new sound.indexed
          nobody adds drops;
    }

-- then the index has what it had
pub undone-pairs : (deadline : Option ℕ) (topic : Text) (tree : Entries Stored)
    (pairs added new : List Pair) → lookup (is_key (levels topic)) tree ≡ None → IsSound tree pairs
    → Adds (pair_at deadline topic) pairs added → Drops (pair_at deadline topic) added new
    → SamePairs new pairs
undone-pairs deadline topic tree pairs added new absent sound adds drops = λ d t.
    (undone-sound deadline topic tree pairs added new absent sound adds drops).indexed d t
    ∙ sym (sound.indexed d t)

-- tree and index fit each other once a message and its pair are taken out
pub taken-sound : (topic : Text) (tree : Entries Stored) (pairs new : List Pair)
    → IsSound tree pairs → Drops (pair_at (deadline_at topic (retained_in tree)) topic) pairs new
    → IsSound (remove_entry (is_key (levels topic)) tree) new
taken-sound topic tree pairs new sound drops = record {
  ordered = take-ordered (levels topic) tree sound.ordered;
  placed = take-placed (levels topic) tree sound.ordered sound.placed;
  indexed = subst (λ retained. Indexes new retained)
      (sym (take-retained topic tree sound.placed sound.ordered))
      (taken-indexed topic (retained_in tree) pairs new sound.indexed drops);
}

-- ## The pair of what was found

-- what is made of the deadline and the topic of what a look-up finds, and of nothing else, is made
-- of those of the topic's message
pub found-pair : (F : Option ℕ → Text → Option Pair) → ((t : Text) → F None t ≡ None)
    → (topic : Text) (tree : Entries Stored) (found : Option Stored) → IsPlaced tree
    → found ≡ lookup (is_key (levels topic)) tree
    → option_and_then (λ (s : Stored). F s.deadline s.topic.value) found
    ≡ F (deadline_at topic (retained_in tree)) topic
found-pair F none topic tree found placed h =
    let deadline = ap (option_and_then (λ (k : Retained). k.deadline))
    (ap (option_map message_in) h ∙ found-retained topic tree placed) in
    let P : Option Stored → Type 0 = λ o. found ≡ o
    → option_and_then (λ (k : Retained). k.deadline) (option_map message_in o)
    ≡ deadline_at topic (retained_in tree)
    → option_and_then (λ (s : Stored). F s.deadline s.topic.value) o
    ≡ F (deadline_at topic (retained_in tree)) topic in
    (elim found as P [
      | None ↦ λ is d. sym (none topic) ∙ ap (λ o. F o topic) d
      | Some s ↦ λ is d. ap (F s.deadline) (found-topic topic tree s placed (sym h ∙ is))
          ∙ ap (λ o. F o topic) d
    ]) refl deadline

-- where there was no deadline, no pair is replaced
pub replaced-none : (new : Option ℕ) (topic : Text) → replaced None new topic ≡ None
replaced-none None topic = refl
replaced-none (Some n) topic = refl
