use Rattle.std.proofs.Common.{rules}
use Rattle.mq_retained.proofs.retained.Retained.is_full.Goals as goal

pub returns : goal.returns
returns c = search rules
