use Rattle.std.proofs.Common.{length}
use Rattle.mq_topic.specs.Levels.{levels, levels_left}
use Rattle.mq_unify.proofs.TermLemmas.{AddsTexts}
use Rattle.mq_unify.proofs.terms.add_texts.Given as goal

-- the levels that are left add what all of them do
abbrev pub invariant-loop-rest : goal.invariant-loop-rest
invariant-loop-rest l =
    AddsTexts (levels l.fn.text) (levels_left l.rest) l.fn.terms.items l.terms.items

abbrev pub decreases-loop-rest : goal.decreases-loop-rest
decreases-loop-rest l = length (levels_left l.rest)
