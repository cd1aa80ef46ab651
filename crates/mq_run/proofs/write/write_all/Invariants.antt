use Rattle.std.proofs.Common.{◌≡◌, ◌≤◌, ◌-◌, length, take}
use Rattle.std.specs.Io.KnownBytes.{Appends}
use Rattle.mq_run.proofs.write.write_all.Given as goal

abbrev pub invariant-loop-at : goal.invariant-loop-at
invariant-loop-at g l = record {
  within : l.at ≤ length l.text;
  written : Appends (g.W.Sink.taken l.fn.writer) (g.W.Sink.taken l.writer) (take l.at l.text);
  count : g.W.Sink.failures l.writer ≡ g.W.Sink.failures l.fn.writer;
}

abbrev pub decreases-loop-at : goal.decreases-loop-at
decreases-loop-at g l = length l.text - l.at
