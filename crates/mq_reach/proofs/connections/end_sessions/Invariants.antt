use Rattle.std.proofs.Common.{◌≡◌, not, length, map}
use Rattle.std.specs.List.{filter}
use Rattle.mq_world.specs.Sessions.{has_ended}
use Rattle.mq_reach.specs.Connects.{closed_ended}
use Rattle.mq_reach.proofs.connections.end_sessions.Given as goal

abbrev pub invariant-loop-client : goal.invariant-loop-client
invariant-loop-client l = record {
  sessions : filter (λ session. not (has_ended l.moment session)) l.sessions
      ≡ filter (λ session. not (has_ended l.moment session)) l.initial.sessions;
  tracked : map (closed_ended l.moment l.sessions) l.tracked
      ≡ map (closed_ended l.moment l.initial.sessions) l.initial.tracked;
}

abbrev pub decreases-loop-client : goal.decreases-loop-client
decreases-loop-client l = length l.sessions
