use Rattle.std.proofs.Common.{◌≡◌, ◌≤◌, length}
use Rattle.mq_sessions.specs.Ends.{AreListed, views_of}
use Rattle.mq_sessions.proofs.sessions.index.drop_stale_ends.Given as goal

abbrev pub invariant-loop-end : goal.invariant-loop-end
invariant-loop-end l = record {
  listed : AreListed l.ends.entries (views_of l.sessions.entries);
  count : length l.ends.entries ≤ length l.initial.ends.entries;
  room : l.ends.room ≡ l.initial.ends.room;
}

abbrev pub decreases-loop-end : goal.decreases-loop-end
decreases-loop-end l = length l.ends.entries
