use Rattle.std.proofs.Common.{◌≡◌, ◌≤◌, ◌+◌, ◌-◌, ◌∙◌, ap, sym, ℕ, length, take, drop, false, arith}
use Rattle.std.specs.List.{list_any}
use Rattle.mq_jsonl.specs.Lines.{is_feed}
use Rattle.mq_jsonl.proofs.PieceLemmas.{chunk_passed}
use Rattle.mq_jsonl.proofs.line_buffer.chunks_without_feed.Goals as goal

pub chunks-preserved : goal.chunks-preserved
chunks-preserved c =
    let bytes = c.args.bytes.now in
    let passed = c.chunks.passed in
    let within : passed + 32 ≤ length bytes =
    (let fits = c.chunks.invariant.0 in let room = c.chunks-test.true in omega arith) in
    let chunk : passed + 32 - passed ≡ 32 = omega arith in
    let none : list_any is_feed (take 32 (drop passed bytes)) ≡ false =
    ap (λ (n : ℕ). list_any is_feed (take n (drop passed bytes))) (sym chunk)
    ∙ sym c.contains.ensures.value ∙ c.if-contains.false in
    (within, chunk_passed is_feed bytes passed 32 within none c.chunks.invariant.1)
