use Rattle.std.proofs.Common.{None, subst}
use Rattle.mq_world.specs.World.{Limits, fresh_world, within}
use Rattle.mq_router.specs.StandsFor.{StandsFor}
use Rattle.mq_router.proofs.router.Router.new.Goals as goal

pub returns : goal.returns
unfolding fresh_world
returns c = subst (λ (limits : Limits). StandsFor c.with_limits.result
    (within limits (fresh_world None))) c.new.ensures c.with_limits.ensures
