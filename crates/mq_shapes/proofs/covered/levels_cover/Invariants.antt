use Rattle.std.proofs.Common.{◌≡◌, length, true}
use Rattle.mq_topic.specs.Levels.{levels, levels_left}
use Rattle.mq_topic.specs.Texts.{wildcards_fit}
use Rattle.mq_shapes.specs.Covered.{LevelsCover}
use Rattle.mq_shapes.proofs.covered.levels_cover.Given as goal

-- where what is left of the one covers what is left of the other, all of it does
abbrev pub invariant-loop-others : goal.invariant-loop-others
invariant-loop-others l =
    (wildcards_fit (levels_left l.others) ≡ true)
    × (wildcards_fit (levels_left l.ones) ≡ true)
    × (LevelsCover l.fn.wide l.fn.narrow (levels_left l.others) (levels_left l.ones)
    → LevelsCover l.fn.wide l.fn.narrow (levels l.fn.other) (levels l.fn.one))

abbrev pub decreases-loop-others : goal.decreases-loop-others
decreases-loop-others l = length (levels_left l.others)
