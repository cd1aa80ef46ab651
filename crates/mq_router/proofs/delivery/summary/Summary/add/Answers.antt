use Rattle.std.proofs.Common.{rules}
use Rattle.mq_router.proofs.delivery.summary.Summary.add.Goals as goal

pub returns : goal.returns
returns c = search rules
