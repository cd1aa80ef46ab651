use Rattle.std.proofs.Common.{◌<◌, length, arith}
use Rattle.mq_through.proofs.IdleLemmas.{alike_all, alike_more}
use Rattle.mq_through.proofs.made.are_alike.Goals as goal

pub loop-place-preserved : goal.loop-place-preserved
loop-place-preserved c =
    let low : c.loop-place.place < length c.args.rows.now = omega arith in
    let low_too : c.loop-place.place < length c.args.others.now = omega arith in
    alike_more c.args.region.now c.args.rows.now c.args.others.now c.loop-place.place
    c.index-rows-place.result c.index-others-place.result low low_too c.index-rows-place.is
    c.index-others-place.is (c.in_ok-is_alike.ensures c.if-not-branch.false)
    c.loop-place.invariant

pub returns : goal.returns
returns c = λ yes.
    alike_all c.args.region.now c.args.rows.now c.args.others.now c.loop-place.place
    (omega arith) (omega arith) c.loop-place.invariant
