use Rattle.std.proofs.Common.{arith}
use Rattle.mq_router.proofs.delivery.fates.Fates.found.Goals as goal

pub returns : goal.returns
returns c = grind (arith, c.self.invariant.0.of_users c.args.user)
