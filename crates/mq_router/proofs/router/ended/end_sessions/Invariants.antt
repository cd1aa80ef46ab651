use Rattle.std.proofs.Common.{◌≡◌, not, length}
use Rattle.std.specs.List.{filter}
use Rattle.mq_world.specs.Sessions.{has_ended}
use Rattle.mq_router.specs.router.Effects.{lasts}
use Rattle.mq_subscriptions.specs.Filters.{AreKeys}
use Rattle.mq_router.proofs.router.ended.end_sessions.Given as goal

abbrev pub invariant-loop-id : goal.invariant-loop-id
invariant-loop-id l = record {
  sessions : filter (λ session. not (has_ended l.moment session)) l.sessions
      ≡ filter (λ session. not (has_ended l.moment session)) l.initial.sessions;
  rows : filter (lasts l.moment l.sessions) l.subscriptions.rows
      ≡ filter (lasts l.moment l.initial.sessions) l.initial.subscriptions.rows;
  keys : AreKeys l.initial.subscriptions → AreKeys l.subscriptions;
}

abbrev pub decreases-loop-id : goal.decreases-loop-id
decreases-loop-id l = length l.sessions
