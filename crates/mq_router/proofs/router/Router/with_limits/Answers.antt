use Rattle.std.proofs.Common.{arith}
use Rattle.mq_router.proofs.Fresh.{fresh_state, fresh-stands}
use Rattle.mq_router.proofs.router.Router.with_limits.Goals as goal

pub returns : goal.returns
returns c = grind (arith, fresh_state, fresh-stands)
