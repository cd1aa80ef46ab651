use Rattle.std.proofs.Common.{◌≡◌, ◌≤◌, ◌+◌, ℕ, List, length}
use Rattle.std.specs.Io.KnownBytes.{Consumes}
use Rattle.mq_jsonl.specs.Feeding.{open_line}
use Rattle.mq_reach.specs.Script.{TakesBytes}
use Rattle.mq_reach.proofs.reading.read_lines.Given as goal

abbrev pub invariant-reads : goal.invariant-reads
invariant-reads g l = record {
  lines : l.reading.search.counts.lines + length (open_line l.reading.feeder)
      + l.reading.feeder.room ≤ 4294967296;
  takes : (given : List ℕ) × Consumes (g.R.Read.remaining l.fn.reader) (g.R.Read.remaining l.reader)
      given × (length given + l.reading.feeder.room ≡ 4294967296)
      × TakesBytes l.list l.fn.reading l.reading given;
}

abbrev pub decreases-reads : goal.decreases-reads
decreases-reads g l = l.reading.feeder.room
