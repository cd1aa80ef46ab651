use Rattle.std.proofs.Common.{length}
use Rattle.mq_unify.proofs.lengths.+are_apart.Given as goal

abbrev pub decreases-are_apart : goal.decreases-are_apart
decreases-are_apart l = length l.some.now
