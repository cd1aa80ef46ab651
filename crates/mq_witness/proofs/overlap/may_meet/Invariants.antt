use Rattle.std.proofs.Common.{length}
use Rattle.mq_topic.specs.Levels.{levels_left}
use Rattle.mq_cover.specs.Remainders.{MarkLevels}
use Rattle.mq_witness.proofs.OverlapLemmas.{AreApart}
use Rattle.mq_witness.proofs.overlap.may_meet.Given as goal

-- where what is left is apart, all was
abbrev pub invariant-loop-one_rest : goal.invariant-loop-one_rest
invariant-loop-one_rest l = (marks : MarkLevels)
    → AreApart l.fn.one.pattern l.fn.other.pattern marks (levels_left l.one_rest)
    (levels_left l.other_rest)
    → AreApart l.fn.one.pattern l.fn.other.pattern marks (levels_left l.fn.one.rest)
    (levels_left l.fn.other.rest)

abbrev pub decreases-loop-one_rest : goal.decreases-loop-one_rest
decreases-loop-one_rest l = length (levels_left l.one_rest)
