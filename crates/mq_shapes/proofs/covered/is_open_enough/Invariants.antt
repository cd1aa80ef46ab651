use Rattle.std.proofs.Common.{◌≡◌, length, true}
use Rattle.mq_topic.specs.Levels.{levels, levels_left}
use Rattle.mq_topic.specs.Texts.{wildcards_fit}
use Rattle.mq_shapes.proofs.OpenLemmas.{LongerMatch}
use Rattle.mq_shapes.proofs.covered.is_open_enough.Given as goal

-- where what is left of the one is open enough for what is left of the other, all of it is
abbrev pub invariant-loop-others : goal.invariant-loop-others
invariant-loop-others l =
    (wildcards_fit (levels_left l.ones) ≡ true)
    × (LongerMatch (levels_left l.others) (levels_left l.ones)
    → LongerMatch (levels l.fn.other) (levels l.fn.one))

abbrev pub decreases-loop-others : goal.decreases-loop-others
decreases-loop-others l = length (levels_left l.others)
