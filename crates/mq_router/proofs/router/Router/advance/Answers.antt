use Rattle.std.proofs.Common.{◌≤◌, not, sym, subst, arith}
use Rattle.mq_world.specs.World.{Advance}
use Rattle.mq_router.specs.StandsFor.{State, Refuses}
use Rattle.mq_router.specs.router.Effects.{world_of}
use Rattle.mq_retained.specs.Stored.{AreNear}
use Rattle.mq_sessions.specs.Near.{AllReached}
use Rattle.mq_world.specs.Sessions.{has_ended}
use Rattle.mq_router.specs.router.Views.{state_of}
use Rattle.mq_subscriptions.proofs.InTurn.{same-is}
use Rattle.mq_router.proofs.RouterLemmas.{advance-refused, advance-accepted, advance-does}
use Rattle.mq_retained.proofs.NearLemmas.{near-later}
use Rattle.mq_sessions.proofs.ReachedLemmas.{reached-later}
use Rattle.mq_world.specs.declared.refusal.Refusal.TheVariants.{ClockTooFar}
use Rattle.mq_router.proofs.router.Router.advance.Goals as goal

pub returns-in_default-clause-applied : goal.returns-in_default-clause-applied
returns-in_default-clause-applied c =
    subst (λ (v : State). Refuses (world_of v) (Advance c.args.seconds) ClockTooFar) c.self.view_is
    (advance-refused (state_of c.self.inside) c.args.seconds c.in_default.ensures.none)

pub invariant_of-self : goal.invariant_of-self
invariant_of-self c =
    let later : c.self.inside.clock.moment ≤ c.in-Some.clock.moment =
    omega (arith, c.in-Some.ensures.some) in (
      subst (λ retained. AreNear c.in-Some.clock.moment retained) (sym c.advance.ensures.rest)
          (near-later c.self.inside.clock.moment c.in-Some.clock.moment _
          c.self.inside.retained.messages later c.self.invariant.0),
      subst (AllReached c.in-Some.clock.moment) (sym c.end_sessions.ensures.sessions)
          (reached-later c.self.inside.clock.moment c.in-Some.clock.moment
          (λ session. not (has_ended c.in-Some.clock.moment session)) c.self.inside.sessions
          later c.self.invariant.1),
    )

pub returns-clause-applied : goal.returns-clause-applied
returns-clause-applied c = grind (arith, advance-does, advance-accepted, same-is)
