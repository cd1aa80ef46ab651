use Rattle.std.proofs.Common.{◌≡◌, ◌∙◌, ◌+◌, ap, arith, subst, sym}
use Rattle.mq_topic.specs.Levels.{levels, levels_left}
use Rattle.mq_shapes.specs.Total.{IsTotal}
use Rattle.mq_shapes.proofs.CoveredLemmas.{slash_free}
use Rattle.mq_shapes.proofs.TotalLemmas.{more_total, none_total}
use Rattle.mq_shapes.proofs.total.filter_total.Goals as goal

pub loop-rest-preserved : goal.loop-rest-preserved
loop-rest-preserved c = λ more rest.
    let w = c.split_first.result.0.now in
    let ws = levels_left c.split_first.result.1 in
    let same : more + 1 + c.loop-rest.total ≡ more + c.in_ok-total.total =
    omega (arith, c.in_ok-total.ensures.1) in
    subst (IsTotal c.args.pattern (levels c.args.text.now)) same
    (c.loop-rest.invariant (more + 1)
    (more_total c.args.pattern w ws (levels_left c.loop-rest.rest) more
    (ap levels_left c.in-Some.is ∙ c.split_first.ensures)
    (slash_free c.in-Some.text.now w ws c.split_first.ensures)
    (sym c.is_single.ensures ∙ c.if-not-is_single.false) rest))

pub returns : goal.returns
returns c =
    let same : 0 + c.loop-rest.total ≡ c.loop-rest.total = omega arith in
    subst (IsTotal c.args.pattern (levels c.args.text.now)) same
    (c.loop-rest.invariant 0 (subst (λ rest. IsTotal c.args.pattern (levels_left rest) 0)
    (sym c.in_default.is) (none_total c.args.pattern)))
