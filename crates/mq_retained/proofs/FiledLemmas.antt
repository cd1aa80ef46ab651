-- The keys of the tree and the pairs of the index are those of the messages; and what a publish leaves.
use Rattle.std.proofs.Common.{◌≡◌, ℕ, eqb, Bool, true, false, ◌&&◌, not, List, sym, ◌∙◌, ap, arith}
use Rattle.std.proofs.Common.{if◌then◌else◌}
use Rattle.std.specs.Ordering.{is_eq, nat_cmp}
use Rattle.std.specs.Cmp.{IsTotalOrder, tied_then}
use Rattle.std.specs.Cmp.Lexicographic.{on_texts}
use Rattle.std.proofs.lemmas.Cmp.{on_total, then_total, nat_cmp_total}
use Rattle.std.proofs.lemmas.Bool.{eqb-true, and_parts}
use Rattle.std.proofs.lemmas.Bool.Decides.{nat_tests}
use Rattle.std.proofs.lemmas.Map.Text.{is_eq-slice_cmp}
use Rattle.std.specs.Map.{keys_of}
use Rattle.std.specs.List.{list_any, filter}
use Rattle.mq_tree.specs.Entries.{Entries}
use Rattle.mq_world.specs.Lists.{Text, same_text, text_cmp, in_order, with_row}
use Rattle.mq_world.specs.World.{Retained, Message, retained_cmp}
use Rattle.mq_retained.specs.Deadlines.{Pair, is_pair, has_pair, pair_cmp, SamePairs}
use Rattle.mq_world.specs.Retained.{is_stored, retained_of, has_topic, retained_after}
use Rattle.mq_retained.specs.Stored.{AreFiled, IsSound, retained_view, retained_in}
use Rattle.mq_world.proofs.ListLemmas.{list_any-same}
use Rattle.mq_world.proofs.OrderLemmas.{text_flip, same_text-is}
use Rattle.mq_world.proofs.SortedLemmas.{ties, any-in_order, same_in_order}
use Rattle.mq_retained.proofs.RetainedLemmas.{keys-retained}
use Rattle.mq_retained.specs.declared.retained.stored.Stored.{Stored}

-- ## Filters

-- ## Pairs

pair_total : IsTotalOrder pair_cmp
pair_total = then_total (on_total (λ p. p.0) nat_cmp_total) (on_texts (λ p. p.1))

same_numbers : (a b : ℕ) → is_eq (nat_cmp a b) ≡ eqb b a
same_numbers a b = grind (arith, nat_tests)

pair_tie : (z p : Pair) → is_eq (pair_cmp z p) ≡ is_pair z.0 z.1 p
pair_tie z p =
    sym (tied_then (nat_cmp z.0 p.0) (text_cmp z.1 p.1))
    ∙ ap (λ b. b && is_eq (text_cmp z.1 p.1)) (same_numbers z.0 p.0)
    ∙ ap (λ b. eqb p.0 z.0 && b) (is_eq-slice_cmp z.1 p.1 ∙ text_flip z.1 p.1)

pair_tied : (z p : Pair) → is_eq (pair_cmp z p) ≡ true → z ≡ p
pair_tied (n, t) (m, u) h =
    let parts : (eqb m n ≡ true) × (same_text u t ≡ true) =
    and_parts _ _ (sym (pair_tie (n, t) (m, u)) ∙ h) in
    ap (λ k. (k, t)) (sym (eqb-true m n parts.0))
    ∙ ap (λ v. (m, v)) (sym (same_text-is u t parts.1))

any_pair : (z : Pair) (pairs : List Pair) → list_any (ties pair_cmp pair_total z) pairs
    ≡ has_pair z.0 z.1 pairs
any_pair z pairs = list_any-same (ties pair_cmp pair_total z) (is_pair z.0 z.1) (pair_tie z) pairs

-- the same pairs are one list once they are in order
pub pairs-same : (xs ys : List Pair) → SamePairs xs ys → in_order pair_cmp xs ≡ in_order pair_cmp ys
pairs-same xs ys same = same_in_order pair_cmp pair_total pair_tied xs ys
    (λ z. any_pair z xs ∙ same z.0 z.1 ∙ sym (any_pair z ys))

-- to put pairs in order changes nothing in which pairs there are
pub has-in_order : (d : ℕ) (topic : Text) (pairs : List Pair)
    → has_pair d topic (in_order pair_cmp pairs) ≡ has_pair d topic pairs
has-in_order d topic pairs = sym (any_pair (d, topic) (in_order pair_cmp pairs))
    ∙ any-in_order pair_cmp pair_total pair_tied (d, topic) pairs ∙ any_pair (d, topic) pairs

-- a sound tree and index show the keys and pairs of their messages
pub sound-filed : (tree : Entries Stored) (pairs : List Pair) → IsSound tree pairs
    → AreFiled (retained_view tree pairs)
sound-filed tree pairs sound = record {
  keys = keys-retained tree sound.placed;
  pairs = λ d topic. has-in_order d topic pairs ∙ sound.indexed d topic;
}

-- the same tree and the same pairs are seen as the same
pub same-kept : (old new : Entries Stored) (pairs others : List Pair) → new ≡ old
    → SamePairs others pairs → retained_view new others ≡ retained_view old pairs
same-kept old new pairs others tree same =
    let index : in_order pair_cmp others ≡ in_order pair_cmp pairs = pairs-same others pairs same in
    λ i. record { messages = retained_in (tree i); keys = keys_of (tree i); pairs = index i }

-- ## What a publish leaves

-- a message that is not to be retained leaves the retained messages as they were
pub after-unretained : (now : ℕ) (retained : List Retained) (m : Message) → m.retain ≡ false
    → retained_after now retained m ≡ retained
unfolding retained_after
after-unretained now retained m h =
    let rest : List Retained = if is_stored m then
    with_row retained_cmp (retained_of now m) retained
    else filter (λ kept. not (has_topic m.topic kept)) retained in
    ap (λ b. if not b then retained else rest) h

-- a message to be retained replaces the one of its topic, or takes it out if it is not stored
pub after-by : (now : ℕ) (retained : List Retained) (m : Message) (b : Bool) → m.retain ≡ true
    → is_stored m ≡ b → retained_after now retained m
    ≡ (if b then with_row retained_cmp (retained_of now m) retained
    else filter (λ kept. not (has_topic m.topic kept)) retained)
unfolding retained_after
after-by now retained m b h e =
    let by : Bool → List Retained = λ v. if v then
    with_row retained_cmp (retained_of now m) retained
    else filter (λ kept. not (has_topic m.topic kept)) retained in
    ap (λ v. if not v then retained else by (is_stored m)) h ∙ ap by e
