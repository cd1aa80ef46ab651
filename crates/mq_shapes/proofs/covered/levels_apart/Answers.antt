use Rattle.std.proofs.Common.{ap, sym, ◌∙◌}
use Rattle.mq_topic.specs.Levels.{levels_left}
use Rattle.mq_shapes.proofs.ApartLemmas.{differ_apart, more_apart}
use Rattle.mq_shapes.proofs.CoveredLemmas.{slash_free}
use Rattle.mq_shapes.proofs.covered.levels_apart.Goals as goal

pub returns-then-not-may_meet : goal.returns-then-not-may_meet
returns-then-not-may_meet c = λ t.
    let w = c.split_first.result.0.now in
    let ws = levels_left c.split_first.result.1 in
    let l = c.split_first-in-Some.result.0.now in
    let ms = levels_left c.split_first-in-Some.result.1 in
    c.loop-others.invariant
    (differ_apart c.args.this c.args.that w l ws ms
    (levels_left c.loop-others.others) (levels_left c.loop-others.ones)
    (ap levels_left c.in-Some.is ∙ c.split_first.ensures)
    (ap levels_left c.in-Some-ones.is ∙ c.split_first-in-Some.ensures)
    (slash_free c.in-Some.other.now w ws c.split_first.ensures)
    (slash_free c.in-Some-ones.one.now l ms c.split_first-in-Some.ensures)
    (sym c.is_single.ensures ∙ c.if-not-is_single.false)
    (sym c.is_single-else-not-is_single.ensures ∙ c.if-not-is_single-2.false)
    (sym c.may_meet.ensures ∙ c.if-not-may_meet.true))

pub loop-others-preserved : goal.loop-others-preserved
loop-others-preserved c = λ rest.
    let w = c.split_first.result.0.now in
    let ws = levels_left c.split_first.result.1 in
    let l = c.split_first-in-Some.result.0.now in
    let ms = levels_left c.split_first-in-Some.result.1 in
    c.loop-others.invariant
    (more_apart c.args.this c.args.that w l ws ms
    (levels_left c.loop-others.others) (levels_left c.loop-others.ones)
    (ap levels_left c.in-Some.is ∙ c.split_first.ensures)
    (ap levels_left c.in-Some-ones.is ∙ c.split_first-in-Some.ensures)
    (slash_free c.in-Some.other.now w ws c.split_first.ensures)
    (slash_free c.in-Some-ones.one.now l ms c.split_first-in-Some.ensures)
    (sym c.is_single.ensures ∙ c.if-not-is_single.false)
    (sym c.is_single-else-not-is_single.ensures ∙ c.if-not-is_single-2.false) rest)
