use Rattle.std.proofs.Common.{drop, sym, subst}
use Rattle.std.specs.Str.{IsCharBoundary}
use Rattle.mq_plan.proofs.ArrowLemmas.{arrow_at, boundary_before, boundary_behind}
use Rattle.mq_plan.proofs.line.split_arrow.Goals as goal

pub split_at-requires : goal.split_at-requires
split_at-requires c = boundary_before c.args.text.now c.args.place c.requires

pub split_at-requires-2 : goal.split_at-requires-2
split_at-requires-2 c =
    let is = arrow_at c.args.text.now c.args.place c.requires in
    subst (λ t. IsCharBoundary t 3) (sym c.split_at.ensures.back)
    (boundary_behind (drop c.args.place c.args.text.now) is.0)
