use Rattle.std.proofs.Common.{◌∙◌, ap, subst, sym, true}
use Rattle.mq_topic.specs.Levels.{levels, levels_left}
use Rattle.mq_shapes.specs.Few.{IsPassed}
use Rattle.mq_shapes.proofs.CountLemmas.{placed_of}
use Rattle.mq_shapes.proofs.few.place.Goals as goal

pub returns : goal.returns
returns c =
    let front = c.in_ok-front.front in
    placed_of c.args.user (levels c.args.row.now.filter) front.count (levels_left front.rest)
    c.split_first.result.0.now (levels_left c.split_first.result.1)
    (subst (λ t. IsPassed true c.args.user (levels t) front.count (levels_left front.rest))
    c.text.ensures.text c.in_ok-front.ensures.passed)
    c.in_ok-front.ensures.marked
    (ap levels_left c.in_ok-front-2.was ∙ c.split_first.ensures)
    (sym c.has_more.ensures ∙ c.if-has_more.false)
