use Rattle.std.proofs.Common.{length}
use Rattle.mq_topic.specs.Levels.{levels, levels_left}
use Rattle.mq_unify.proofs.FilterLemmas.{IsTermsOf}
use Rattle.mq_unify.proofs.terms.terms_of.Given as goal

-- the terms, and the levels that are left, are matched by what all levels are
abbrev pub invariant-loop-rest : goal.invariant-loop-rest
invariant-loop-rest l =
    IsTermsOf l.shape l.pattern (levels l.fn.filter) (levels_left l.rest) l.fixed.items

abbrev pub decreases-loop-rest : goal.decreases-loop-rest
decreases-loop-rest l = length (levels_left l.rest)
