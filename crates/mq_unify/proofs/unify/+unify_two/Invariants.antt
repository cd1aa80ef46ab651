use Rattle.std.proofs.Common.{length}
use Rattle.mq_unify.proofs.unify.+unify_two.Given as goal

abbrev pub decreases-unify_two : goal.decreases-unify_two
decreases-unify_two l = length l.one.now
