use Rattle.std.proofs.Common.{◌==◌, ap, arith, length}
use Rattle.std.proofs.lemmas.List.Splits.{length-slice_split}
use Rattle.std.proofs.lemmas.List.Sums.{count_by-le-length}
use Rattle.mq_acl.specs.Views.{lines_left}
use Rattle.mq_plan.proofs.check.first_fault.Goals as goal

pub overflow_add-number : goal.overflow_add-number
overflow_add-number c =
    let text = c.args.text.now in
    let left = ap length c.split_line.ensures in
    let some = ap (λ r. length (lines_left r)) c.in-Some.is in
    let count = c.loop-rest.invariant.counted in
    omega (
      arith,
      length-slice_split (λ b. b == 10) text,
      count_by-le-length (λ b. b == 10) text,
      count,
      left,
      some,
    )
