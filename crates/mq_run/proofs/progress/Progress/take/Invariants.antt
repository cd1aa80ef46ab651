use Rattle.std.proofs.Common.{◌≡◌, ◌≤◌, ◌+◌, ◌++◌, List, ℕ, length}
use Rattle.mq_jsonl.specs.Feeding.{open_line}
use Rattle.mq_run.specs.Running.{TakesBytes}
use Rattle.mq_run.proofs.progress.Progress.take.Given as goal

abbrev pub invariant-lines : goal.invariant-lines
invariant-lines g l =
    let taken = g.W.Sink.taken in
    record {
      takes : (done : List ℕ) × (l.bytes ≡ done ++ l.rest)
          × TakesBytes l.fn.self l.self done (taken l.fn.writer) (taken l.writer);
      counted : g.W.Sink.failures l.writer ≡ g.W.Sink.failures l.fn.writer;
      lines : l.self.summary.lines + length (open_line l.self.feeder) + length l.rest
          ≤ l.fn.self.summary.lines + length (open_line l.fn.self.feeder) + length l.bytes;
      room : l.self.feeder.room ≡ l.fn.self.feeder.room;
    }

abbrev pub decreases-lines : goal.decreases-lines
decreases-lines g l = length l.rest
