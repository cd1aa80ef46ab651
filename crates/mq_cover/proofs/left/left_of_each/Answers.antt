use Rattle.std.proofs.Common.{ap, ◌∙◌, false}
use Rattle.std.specs.Option.{option_map_or}
use Rattle.mq_cover.specs.Remainders.{marks_view, covers}
use Rattle.mq_cover.proofs.LeftLemmas.{skip}
use Rattle.mq_cover.proofs.left.left_of_each.Goals as goal

pub loop-remainder-preserved-in_default : goal.loop-remainder-preserved-in_default
loop-remainder-preserved-in_default c =
    let marks = marks_view c.args.marks in
    skip c.args.remainders.now c.loop-remainder.remainder-index _ marks c.args.level.now
    c.loop-remainder.left.items c.loop-remainder-test.true
    (λ ls. c.behind.ensures.covers ls
    ∙ ap (λ o. option_map_or (covers marks ls) o false) c.in_default.is) c.loop-remainder.invariant
