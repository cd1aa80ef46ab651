use Rattle.std.proofs.Common.{length}
use Rattle.mq_unify.proofs.unify.+unify_with.Given as goal

abbrev pub decreases-unify_with : goal.decreases-unify_with
decreases-unify_with l = length l.all.now
