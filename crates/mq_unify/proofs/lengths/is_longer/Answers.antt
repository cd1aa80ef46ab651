use Rattle.std.proofs.Common.{◌∙◌}
use Rattle.mq_unify.specs.Terms.{shape_of}
use Rattle.mq_unify.proofs.LengthLemmas.{longer}
use Rattle.mq_unify.proofs.lengths.is_longer.Goals as goal

pub returns-then-not-other : goal.returns-then-not-other
returns-then-not-other c =
    let one = c.args.one.now in
    let other = c.args.other.now in
    longer (shape_of one) (shape_of other) c.len-then-not-other.result c.len.result
    c.if-not-other.true (c.len.ensures ∙ other.fixed.ok.0)
    (c.len-then-not-other.ensures ∙ one.fixed.ok.0)
