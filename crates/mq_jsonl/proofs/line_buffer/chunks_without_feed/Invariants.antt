use Rattle.std.proofs.Common.{◌≡◌, ◌≤◌, ◌+◌, ◌-◌, length, drop}
use Rattle.std.specs.List.{position_or_len}
use Rattle.mq_jsonl.specs.Lines.{is_feed}
use Rattle.mq_jsonl.proofs.line_buffer.chunks_without_feed.Given as goal

-- there is no line feed among the bytes that are passed
abbrev pub invariant-chunks : goal.invariant-chunks
invariant-chunks l = (l.passed ≤ length l.bytes)
    × (position_or_len is_feed l.bytes ≡ l.passed + position_or_len is_feed (drop l.passed l.bytes))

abbrev pub decreases-chunks : goal.decreases-chunks
decreases-chunks l = length l.bytes - l.passed
