use Rattle.std.proofs.Common.{length}
use Rattle.mq_unify.proofs.unify.+unify_all.Given as goal

abbrev pub decreases-unify_all : goal.decreases-unify_all
decreases-unify_all l = length l.some.now
