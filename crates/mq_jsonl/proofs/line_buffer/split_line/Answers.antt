use Rattle.std.proofs.Common.{◌≡◌, ◌<◌, ◌+◌, ◌-◌, ◌++◌, ◌∷◌, [], ℕ, List, length, take, drop, suc}
use Rattle.std.proofs.Common.{Some, None, sym, ◌∙◌, ap, arith, length-drop}
use Rattle.std.specs.Prelude.{position}
use Rattle.std.proofs.lemmas.List.{take_all}
use Rattle.mq_jsonl.specs.Lines.{is_feed}
use Rattle.mq_jsonl.proofs.PieceLemmas.{no_feed, feed_found, position-later, rest_whole}
use Rattle.mq_jsonl.proofs.line_buffer.split_line.Goals as goal

-- the ranges, as lists
rest_is : (xs : List ℕ) (n : ℕ) → n < length xs
    → take (length xs - (n + 1)) (drop (n + 1) xs) ≡ drop (suc n) xs
rest_is xs n h =
    let next : n + 1 ≡ suc n = omega arith in
    ap (λ (k : ℕ). take (length xs - k) (drop k xs)) next
    ∙ take_all (length xs - suc n) (drop (suc n) xs)
    (let e = length-drop (suc n) xs in omega arith)

pub returns-in_err-feed : goal.returns-in_err-feed
returns-in_err-feed c =
    let bytes = c.args.bytes.now in
    let passed = c.chunks_without_feed-passed.result in
    let rest = position-later is_feed bytes passed c.chunks_without_feed-passed.ensures.bound
    c.chunks_without_feed-passed.ensures.later in
    let feed = ap (λ l. position is_feed l) (rest_whole passed bytes) in
    let none : position is_feed bytes ≡ None = rw (rest, sym feed, sym c.in_err-feed.ensures) in
    rw c.from_residual.ensures (no_feed bytes none)

pub returns : goal.returns
returns c =
    let xs : List ℕ = c.args.bytes.now in
    let passed = c.chunks_without_feed-passed.result in
    let rest = position-later is_feed xs passed c.chunks_without_feed-passed.ensures.bound
    c.chunks_without_feed-passed.ensures.later in
    let feed = ap (λ l. position is_feed l) (rest_whole passed xs) in
    let at : ℕ = passed + c.in_ok-feed.field-0 in
    let some : position is_feed xs ≡ Some at = rw (rest, sym feed, sym c.in_ok-feed.ensures) in
    let found = feed_found xs at some in (
      found.1 ∙ ap (λ r. (take at xs ++ 10 ∷ []) ++ r) (sym (rest_is xs at found.0)),
      found.2,
    )
