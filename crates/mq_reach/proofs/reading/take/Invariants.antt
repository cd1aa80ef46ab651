use Rattle.std.proofs.Common.{◌≡◌, ◌≤◌, ◌+◌, ◌++◌, List, ℕ, length}
use Rattle.mq_jsonl.specs.Feeding.{open_line}
use Rattle.mq_reach.specs.Script.{TakesBytes}
use Rattle.mq_reach.proofs.reading.take.Given as goal

abbrev pub invariant-lines : goal.invariant-lines
invariant-lines l = record {
  takes : (done : List ℕ) × (l.bytes ≡ done ++ l.rest)
      × TakesBytes l.list l.fn.reading l.reading done;
  lines : l.reading.search.counts.lines + length (open_line l.reading.feeder) + length l.rest
      ≤ l.fn.reading.search.counts.lines + length (open_line l.fn.reading.feeder)
      + length l.bytes;
  room : l.reading.feeder.room ≡ l.fn.reading.feeder.room;
}

abbrev pub decreases-lines : goal.decreases-lines
decreases-lines l = length l.rest
