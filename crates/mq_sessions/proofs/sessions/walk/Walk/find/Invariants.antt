use Rattle.std.proofs.Common.{◌≡◌, length}
use Rattle.mq_sessions.specs.Walks.{IsAhead, entries_left}
use Rattle.mq_sessions.proofs.sessions.walk.Walk.find.Given as goal

abbrev pub invariant-loop-self : goal.invariant-loop-self
invariant-loop-self l = record {
  ahead : IsAhead l.self-inside.sessions.now l.self-inside.past l.self-inside.ahead
      l.self-inside.rest;
  same : l.self-inside.sessions ≡ l.initial.self-inside.sessions;
}

abbrev pub decreases-loop-self : goal.decreases-loop-self
decreases-loop-self l = length (entries_left l.self-inside.ahead l.self-inside.rest)
