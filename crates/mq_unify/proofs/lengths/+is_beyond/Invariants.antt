use Rattle.std.proofs.Common.{length}
use Rattle.mq_unify.proofs.lengths.+is_beyond.Given as goal

abbrev pub decreases-is_beyond : goal.decreases-is_beyond
decreases-is_beyond l = length l.all.now
