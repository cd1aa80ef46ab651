use Rattle.std.proofs.Common.{All, refl, subst, arith}
use Rattle.std.proofs.lemmas.List.{take_all}
use Rattle.std.proofs.lemmas.List.Elements.{All-more}
use Rattle.mq_differences.specs.Groups.{LacksGroup}
use Rattle.mq_differences.proofs.group.place_among.Goals as goal

pub loop-place-preserved : goal.loop-place-preserved
loop-place-preserved c =
    All-more (LacksGroup c.args.groups.now c.args.difference.now) c.args.places.now
    c.loop-place.place-index 0 c.loop-place-test.true c.loop-place.invariant
    (c.if-belongs_at.ensures.lacks refl)

pub returns-clause-lacks : goal.returns-clause-lacks
returns-clause-lacks c =
    subst (All (LacksGroup c.args.groups.now c.args.difference.now))
    (take_all c.loop-place.place-index c.args.places.now (omega arith)) c.loop-place.invariant
