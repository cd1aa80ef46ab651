-- The number of the messages that are kept.
use Rattle.std.proofs.Common.{◌≡◌, ◌+◌, ℕ, true, false, true≢false, List, [], ◌∷◌, length, min}
use Rattle.std.proofs.Common.{Option, Some, None, refl, ap, sym, ◌∙◌, arith, rules}
use Rattle.std.specs.BTreeMap.{insert_entry}
use Rattle.std.specs.Map.{lookup, values_of, remove_entry}
use Rattle.std.specs.Prelude.{is_some, option_map, unwrap_or}
use Rattle.std.specs.List.{sum_by}
use Rattle.std.proofs.lemmas.List.Sums.{sum_by-cons}
use Rattle.std.proofs.lemmas.Map.Entries.{sum_by-insert_entry, sum_by-remove_entry}
use Rattle.mq_topic.specs.Levels.{level_order}
use Rattle.mq_tree.specs.Entries.{Entries, is_key, AreInOrder}
use Rattle.mq_topic.specs.Prefixes.{capped}
use Rattle.mq_retained.specs.Stored.{AreCounted}
use Rattle.mq_world.proofs.OrderLemmas.{levels_total}
use Rattle.mq_retained.proofs.RetainedLemmas.{put-ordered, take-ordered}
use Rattle.mq_retained.specs.declared.retained.stored.Stored.{Stored}

abbrev one : Stored → ℕ
one s = 1

ones : (es : Entries Stored) → sum_by one (values_of es) ≡ length es
ones [] = refl
ones (e ∷ es) =
    let more : sum_by one (values_of (e ∷ es)) ≡ 1 + sum_by one (values_of es) =
    sum_by-cons one e.1 (values_of es) in
    let same : sum_by one (values_of es) ≡ length es = ones es in
    omega arith

put-length : (k : List (List ℕ)) (s : Stored) (tree : Entries Stored) → AreInOrder tree
    → length (insert_entry level_order tree k s)
    + unwrap_or (option_map one (lookup (is_key k) tree)) 0 ≡ length tree + 1
put-length k s tree ordered =
    rw (sym (ones (insert_entry level_order tree k s)), sym (ones tree))
    (sum_by-insert_entry one levels_total tree k s ordered)

take-length : (k : List (List ℕ)) (tree : Entries Stored)
    → length (remove_entry (is_key k) tree) + unwrap_or (option_map one (lookup (is_key k) tree)) 0
    ≡ length tree
take-length k tree = rw (sym (ones (remove_entry (is_key k) tree)), sym (ones tree))
    (sum_by-remove_entry one (is_key k) tree)

weight-none : (o : Option Stored) → is_some o ≡ false → unwrap_or (option_map one o) 0 ≡ 0
weight-none None h = refl
weight-none (Some s) h = absurd (true≢false h)

weight-some : (o : Option Stored) → is_some o ≡ true → unwrap_or (option_map one o) 0 ≡ 1
weight-some None h = absurd (true≢false (sym h))
weight-some (Some s) h = refl

-- one more, up to the greatest number
capped-more : (n : ℕ) → min (capped n + 1) 18446744073709551615 ≡ capped (n + 1)
capped-more n = search (rules, arith)

-- a message at a new topic counts one more, up to the greatest number
pub put-new : (count : ℕ) (k : List (List ℕ)) (s : Stored) (tree : Entries Stored)
    → is_some (lookup (is_key k) tree) ≡ false → AreCounted count tree
    → AreCounted (min (count + 1) 18446744073709551615) (insert_entry level_order tree k s)
put-new count k s tree none counted =
    let added = put-length k s tree counted.ordered in
    let nothing = weight-none (lookup (is_key k) tree) none in
    let longer : length (insert_entry level_order tree k s) ≡ length tree + 1 = omega arith in
    record {
      ordered = put-ordered k s tree counted.ordered;
      number = ap (λ n. min (n + 1) 18446744073709551615) counted.number ∙ capped-more (length tree)
          ∙ ap capped (sym longer);
    }

-- a message in the place of another leaves the count as it was
pub put-again : (count : ℕ) (k : List (List ℕ)) (s : Stored) (tree : Entries Stored)
    → is_some (lookup (is_key k) tree) ≡ true → AreCounted count tree
    → AreCounted count (insert_entry level_order tree k s)
put-again count k s tree some counted =
    let added = put-length k s tree counted.ordered in
    let replaced = weight-some (lookup (is_key k) tree) some in
    let same : length (insert_entry level_order tree k s) ≡ length tree = omega arith in
    record {
      ordered = put-ordered k s tree counted.ordered;
      number = counted.number
          ∙ ap capped (sym same);
    }

-- a tree is greater by one than what is left when a message is taken out
pub taken-fewer : (k : List (List ℕ)) (tree : Entries Stored)
    → is_some (lookup (is_key k) tree) ≡ true
    → length tree ≡ length (remove_entry (is_key k) tree) + 1
taken-fewer k tree some =
    let rest = take-length k tree in
    let taken = weight-some (lookup (is_key k) tree) some in
    omega arith

-- where there is no message to take out, the count stays
pub none-taken : (count : ℕ) (k : List (List ℕ)) (tree : Entries Stored)
    → is_some (lookup (is_key k) tree) ≡ false → AreCounted count tree
    → AreCounted count (remove_entry (is_key k) tree)
none-taken count k tree none counted =
    let rest = take-length k tree in
    let nothing = weight-none (lookup (is_key k) tree) none in
    let same : length (remove_entry (is_key k) tree) ≡ length tree = omega arith in
    record {
      ordered = take-ordered k tree counted.ordered;
      number = counted.number
          ∙ ap capped (sym same);
    }
