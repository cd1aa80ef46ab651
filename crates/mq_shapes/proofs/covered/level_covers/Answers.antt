use Rattle.std.proofs.Common.{◌∙◌, codes, sym}
use Rattle.std.specs.Cmp.{booleans_Decides}
use Rattle.mq_topic.proofs.ByteLemmas.{text_is}
use Rattle.mq_shapes.proofs.CoveredLemmas.{level_any, level_itself, level_same}
use Rattle.mq_shapes.proofs.covered.level_covers.Goals as goal

pub returns-then-wide-narrow : goal.returns-then-wide-narrow
returns-then-wide-narrow c = λ equal.
    level_itself c.args.wide c.args.narrow c.args.other.now c.args.one.now
    ((booleans_Decides c.args.wide c.args.narrow).0 c.if-wide-narrow.true)
    (text_is c.args.other.now c.args.one.now (sym c.eq.ensures ∙ equal))

pub returns-then-eq : goal.returns-then-eq
returns-then-eq c = λ equal.
    level_any c.args.wide c.args.narrow c.args.other.now c.args.one.now c.requires
    (sym c.has_mark.ensures ∙ c.if-has_mark.false)
    (text_is c.args.other.now (codes "+") (sym c.eq-2.ensures ∙ equal))

pub returns-else-eq : goal.returns-else-eq
returns-else-eq c = λ equal.
    level_same c.args.wide c.args.narrow c.args.other.now c.args.one.now c.requires
    (sym c.has_mark.ensures ∙ c.if-has_mark.false)
    (text_is c.args.other.now c.args.one.now (sym c.eq-else-eq.ensures ∙ equal))
