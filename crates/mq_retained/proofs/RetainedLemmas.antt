-- The tree of retained messages as a list of messages in the order of their topics.
use Rattle.std.proofs.Common.{◌≡◌, ℕ, Bool, true, false, cond, not, List, [], ◌∷◌, map, Some, refl}
use Rattle.std.proofs.Common.{sym, ◌∙◌, ap, subst, Option}
use Rattle.std.specs.declared.cmp.Ordering.{Ordering}
use Rattle.std.specs.declared.cmp.Ordering.TheVariants.{Less, Equal, Greater}
use Rattle.std.specs.Ordering.{is_eq, match_ordering}
use Rattle.std.specs.FinMap.{nat_cmp-IsAntisymmetric, slice_cmp-IsAntisymmetric}
use Rattle.std.specs.BTreeMap.{insert_entry}
use Rattle.std.specs.Map.{lookup, keys_of, values_of, remove_entry}
use Rattle.std.specs.Option.{option_map}
use Rattle.std.specs.List.{filter, find}
use Rattle.std.specs.List.Sorted.{IsStrictlySortedBy}
use Rattle.std.proofs.lemmas.List.Kept.{IsStrictlySortedBy-filter}
use Rattle.std.proofs.lemmas.Simd.{map-map}
use Rattle.mq_topic.specs.Levels.{levels, level_order}
use Rattle.mq_topic.specs.Matching.{matches}
use Rattle.mq_tree.specs.Entries.{Entries, is_key, AreInOrder}
use Rattle.mq_world.specs.Lists.{Text, with_row}
use Rattle.mq_world.specs.World.{Retained, retained_cmp}
use Rattle.mq_world.specs.Retained.{has_topic}
use Rattle.mq_world.specs.Copies.{filter_matches}
use Rattle.mq_retained.specs.Stored.{message_in, retained_in, IsPlaced}
use Rattle.mq_world.proofs.ListLemmas.{map-insert_entry, map-insert_entry_among}
use Rattle.mq_world.proofs.ListLemmas.{remove_entry-filter, map-filter}
use Rattle.mq_world.proofs.OrderLemmas.{levels_total, level_equal, equal_from, sorted-with_row}
use Rattle.mq_world.proofs.OrderLemmas.{all_filtered, text_flip, same_text-is}
use Rattle.mq_retained.specs.declared.retained.stored.Stored.{Stored}

abbrev pub Entry : Type 0
Entry = List (List ℕ) × Stored

abbrev pub Stands : Entry → Type 0
Stands entry = entry.0 ≡ levels entry.1.topic.value

abbrev pub view : Entry → Retained
view entry = message_in entry.1

-- ## A message that is put

same_key : (k e : List (List ℕ)) → level_order k e ≡ Equal → k ≡ e
same_key k e h = slice_cmp-IsAntisymmetric (slice_cmp-IsAntisymmetric nat_cmp-IsAntisymmetric) k e h

agrees : (e d : Entry) → Stands e → Stands d → retained_cmp (view e) (view d) ≡ level_order e.0 d.0
agrees e d p q = ap (λ k. level_order k (levels d.1.topic.value)) (sym p)
    ∙ ap (λ k. level_order e.0 k) (sym q)

-- to insert at the key of a message's topic is to put the message among the others
pub put-retained : (k : List (List ℕ)) (s : Stored) (tree : Entries Stored)
    → k ≡ levels s.topic.value → IsPlaced tree → AreInOrder tree → retained_in (insert_entry level_order tree k s)
    ≡ with_row retained_cmp (message_in s) (retained_in tree)
put-retained k s tree here placed ordered =
    map-insert_entry_among level_order levels_total view retained_cmp Stands agrees
    (λ _ _ _ _. refl) k s tree here placed ordered

-- an insert keeps the keys in order
pub put-ordered : (k : List (List ℕ)) (s : Stored) (tree : Entries Stored) → AreInOrder tree
    → AreInOrder (insert_entry level_order tree k s)
put-ordered k s tree ordered =
    subst (λ ks. IsStrictlySortedBy level_order ks)
    (sym (map-insert_entry level_order levels_total (λ e. e.0) level_order (λ _ _. refl)
    (λ j e _ h. sym (same_key j e h)) k s tree ordered))
    (sorted-with_row level_order levels_total k (keys_of tree) ordered)

-- a message inserted at the key of its topic leaves each message at its topic
pub put-placed : (k : List (List ℕ)) (s : Stored) (tree : Entries Stored) → k ≡ levels s.topic.value
    → IsPlaced tree → IsPlaced (insert_entry level_order tree k s)
put-placed k s [] here placed = (here, tt)
put-placed k s (e ∷ es) here placed =
    let P : Ordering → Type 0 = λ r. level_order k e.0 ≡ r
    → IsPlaced (match_ordering r ((k, s) ∷ e ∷ es) ((e.0, s) ∷ es)
    (e ∷ insert_entry level_order es k s)) in
    (elim (level_order k e.0) as P [
      | Less ↦ λ h. (here, placed)
      | Equal ↦ λ h. (sym (same_key k e.0 h) ∙ here, placed.1)
      | Greater ↦ λ h. (placed.0, put-placed k s es here placed.1)
    ]) refl

-- ## A message that is taken out

-- a message stands at the key of its topic alone
pub key-is : (topic : Text) (e : Entry) → Stands e
    → is_key (levels topic) e.0 ≡ has_topic topic (view e)
key-is topic e h =
    ap (λ k. is_eq (level_order (levels topic) k)) h ∙ level_equal topic e.1.topic.value
    ∙ text_flip topic e.1.topic.value

some_is : (x y : Stored) → ◌≡◌ {A = Option Stored} (Some x) (Some y) → x ≡ y
some_is x y h = cc

-- what stands at the key of a topic has that topic
pub found-topic : (topic : Text) (tree : Entries Stored) (s : Stored) → IsPlaced tree
    → lookup (is_key (levels topic)) tree ≡ Some s → s.topic.value ≡ topic
found-topic topic [] s placed h = cc
found-topic topic (e ∷ es) s placed h =
    let P : Bool → Type 0 = λ b. is_key (levels topic) e.0 ≡ b
    → cond b (Some e.1) (lookup (is_key (levels topic)) es) ≡ Some s → s.topic.value ≡ topic in
    (elim (is_key (levels topic) e.0) as P [
      | true ↦ λ here found. subst (λ (x : Stored). x.topic.value ≡ topic) (some_is e.1 s found)
          (same_text-is e.1.topic.value topic (sym (key-is topic e placed.0) ∙ here))
      | false ↦ λ other found. found-topic topic es s placed.1 found
    ]) refl h

key-apart : (k x y : List (List ℕ)) → is_key k x ≡ true → level_order x y ≡ Less
    → is_key k y ≡ false
key-apart k x y h l = ap is_eq (levels_total.congr k x y (equal_from _ h) ∙ l)

taken-is : (k : List (List ℕ)) (tree : Entries Stored) → AreInOrder tree
    → remove_entry (is_key k) tree ≡ filter (λ e. not (is_key k e.0)) tree
taken-is k tree ordered = remove_entry-filter level_order (is_key k) (key-apart k) tree ordered

filter_keys : (topic : Text) (tree : Entries Stored) → IsPlaced tree
    → filter (λ e. not (is_key (levels topic) e.0)) tree
    ≡ filter (λ e. not (has_topic topic (view e))) tree
filter_keys topic [] placed = refl
filter_keys topic (e ∷ es) placed = rw (key-is topic e placed.0, filter_keys topic es placed.1) refl

-- to remove the key of a topic is to leave out the message of that topic
pub take-retained : (topic : Text) (tree : Entries Stored) → IsPlaced tree → AreInOrder tree
    → retained_in (remove_entry (is_key (levels topic)) tree)
    ≡ filter (λ kept. not (has_topic topic kept)) (retained_in tree)
take-retained topic tree placed ordered =
    ap retained_in (taken-is (levels topic) tree ordered ∙ filter_keys topic tree placed)
    ∙ map-filter view (λ kept. not (has_topic topic kept)) tree

-- a removal keeps the keys in order
pub take-ordered : (k : List (List ℕ)) (tree : Entries Stored) → AreInOrder tree
    → AreInOrder (remove_entry (is_key k) tree)
take-ordered k tree ordered =
    subst (λ (es : Entries Stored). AreInOrder es) (sym (taken-is k tree ordered))
    (subst (λ ks. IsStrictlySortedBy level_order ks)
    (sym (map-filter (λ (e : Entry). e.0) (λ j. not (is_key k j)) tree))
    (IsStrictlySortedBy-filter level_order (λ j. not (is_key k j)) (keys_of tree) ordered))

-- a removal leaves each message at its topic
pub take-placed : (k : List (List ℕ)) (tree : Entries Stored) → AreInOrder tree → IsPlaced tree
    → IsPlaced (remove_entry (is_key k) tree)
take-placed k tree ordered placed =
    subst (λ (es : Entries Stored). IsPlaced es) (sym (taken-is k tree ordered))
    (all_filtered Stands (λ e. not (is_key k e.0)) tree placed)

-- ## A message that is found

-- a look-up by the levels of a topic finds the message of that topic
pub found-retained : (topic : Text) (tree : Entries Stored) → IsPlaced tree
    → option_map message_in (lookup (is_key (levels topic)) tree)
    ≡ find (has_topic topic) (retained_in tree)
found-retained topic [] placed = refl
found-retained topic (e ∷ es) placed =
    let P : Bool → Type 0 = λ b. option_map message_in
    (cond b (Some e.1) (lookup (is_key (levels topic)) es))
    ≡ cond (has_topic topic (view e)) (Some (view e)) (find (has_topic topic) (retained_in es))
    in
    let same : P (has_topic topic (view e)) =
    elim (has_topic topic (view e))
    as (λ b. option_map message_in (cond b (Some e.1) (lookup (is_key (levels topic)) es))
    ≡ cond b (Some (view e)) (find (has_topic topic) (retained_in es))) [
      | true ↦ refl
      | false ↦ found-retained topic es placed.1
    ] in
    subst P (sym (key-is topic e placed.0)) same

-- ## The messages that a filter matches

-- the entries whose keys a filter matches hold the messages whose topics it matches
pub matched-retained : (topic_filter : Text) (tree : Entries Stored) → IsPlaced tree
    → map message_in (values_of (filter (λ e. matches (levels topic_filter) e.0) tree))
    ≡ filter (λ kept. filter_matches topic_filter kept.topic) (retained_in tree)
matched-retained topic_filter tree placed =
    map-map message_in (λ (e : Entry). e.1) (filter (λ e. matches (levels topic_filter) e.0) tree)
    ∙ ap retained_in (at_topics tree placed)
    ∙ map-filter view (λ kept. filter_matches topic_filter kept.topic) tree
  where
    at_topics : (es : Entries Stored) → IsPlaced es
        → filter (λ e. matches (levels topic_filter) e.0) es
        ≡ filter (λ e. filter_matches topic_filter (view e).topic) es
    at_topics [] h = refl
    at_topics (e ∷ es) h = rw (h.0, at_topics es h.1) refl

-- the keys of the tree are the levels of the messages' topics
pub keys-retained : (tree : Entries Stored) → IsPlaced tree
    → keys_of tree ≡ map (λ kept. levels kept.topic) (retained_in tree)
keys-retained [] placed = refl
keys-retained (e ∷ es) placed = rw (placed.0, keys-retained es placed.1) refl
