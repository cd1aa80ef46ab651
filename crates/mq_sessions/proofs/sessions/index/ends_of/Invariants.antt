use Rattle.std.proofs.Common.{◌+◌, ◌≤◌, length}
use Rattle.mq_sessions.specs.Ends.{ending, views_of}
use Rattle.mq_sessions.proofs.EndLemmas.{Lists}
use Rattle.mq_sessions.proofs.sessions.index.ends_of.Given as goal

abbrev pub invariant-loop-id : goal.invariant-loop-id
invariant-loop-id l = record {
  listed : Lists l.ends.entries l.id-iterator l.sessions.entries;
  count : length l.ends.entries + length (ending (views_of l.id-iterator))
      ≤ length (ending (views_of l.sessions.entries));
  fits : length l.ends.entries + length l.id-iterator ≤ length l.sessions.entries;
  room : l.room ≤ l.ends.room;
}
