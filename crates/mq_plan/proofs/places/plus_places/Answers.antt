use Rattle.std.proofs.Common.{◌==◌, ap, arith, length}
use Rattle.std.proofs.lemmas.List.Splits.{length-slice_split}
use Rattle.std.proofs.lemmas.List.Sums.{count_by-le-length}
use Rattle.mq_topic.specs.Levels.{levels_left}
use Rattle.mq_plan.proofs.places.plus_places.Goals as goal

pub overflow_add-place : goal.overflow_add-place
overflow_add-place c =
    let text = c.args.text.now in
    let left = ap length c.split_first.ensures in
    let some = ap (λ r. length (levels_left r)) c.in-Some.is in
    let count = c.loop-rest.invariant.counted in
    omega (
      arith,
      length-slice_split (λ b. b == 47) text,
      count_by-le-length (λ b. b == 47) text,
      count,
      left,
      some,
    )
