use Rattle.std.proofs.Common.{◌≡◌, ◌≤◌, ◌+◌, ℕ, List, length}
use Rattle.std.specs.Io.KnownBytes.{Consumes}
use Rattle.mq_jsonl.specs.Feeding.{open_line}
use Rattle.mq_run.specs.Running.{TakesBytes}
use Rattle.mq_run.proofs.runner.read_lines.Given as goal

abbrev pub invariant-reads : goal.invariant-reads
invariant-reads g l =
    let taken = g.W.Sink.taken in
    let to_come = g.R.Source.to_come in
    record {
      lines : l.progress.summary.lines + length (open_line l.progress.feeder)
          + l.progress.feeder.room ≤ l.options.limit;
      reader : g.R.Source.failures l.reader ≡ g.R.Source.failures l.fn.reader;
      writer : g.W.Sink.failures l.writer ≡ g.W.Sink.failures l.fn.writer;
      takes : (given : List ℕ) × Consumes (to_come l.fn.reader) (to_come l.reader) given
          × (length given + l.progress.feeder.room ≡ l.options.limit)
          × TakesBytes l.fn.progress l.progress given (taken l.fn.writer) (taken l.writer);
    }

abbrev pub decreases-reads : goal.decreases-reads
decreases-reads g l = l.progress.feeder.room
