use Rattle.std.proofs.Common.{rules}
use Rattle.mq_retained.proofs.retained.copies.retained_copy.Goals as goal

pub returns : goal.returns
returns c = search rules

pub time_left-requires : goal.time_left-requires
time_left-requires c = search rules
