use Rattle.std.proofs.Common.{◌≡◌, ◌+◌, ◌≤◌, length}
use Rattle.mq_sessions.specs.Ends.{views_of}
use Rattle.mq_sessions.proofs.SweepLemmas.{AreSwept}
use Rattle.mq_sessions.proofs.sessions.index.move_live.Given as goal

abbrev pub invariant-loop-end : goal.invariant-loop-end
invariant-loop-end l = record {
  swept : AreSwept l.ends.entries l.live.entries (views_of l.sessions.entries);
  fits : length l.ends.entries + length l.live.entries ≤ l.live.room;
  room : l.ends.room ≡ l.initial.ends.room;
  live_room : l.initial.live.room ≤ l.live.room;
}

abbrev pub decreases-loop-end : goal.decreases-loop-end
decreases-loop-end l = length l.ends.entries
