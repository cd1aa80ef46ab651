use Rattle.std.proofs.Common.{◌∙◌, ap, sym}
use Rattle.std.proofs.lemmas.Bool.{not-true}
use Rattle.mq_topic.specs.Levels.{levels, levels_left}
use Rattle.mq_acl.specs.Views.{row_view}
use Rattle.mq_shapes.specs.Covered.{is_filled}
use Rattle.mq_shapes.proofs.ElsewhereLemmas.{level_elsewhere}
use Rattle.mq_shapes.proofs.ruled.is_elsewhere.Goals as goal

pub returns : goal.returns
returns c = λ t.
    level_elsewhere c.args.start (row_view c.args.row.now) c.split_first.result.0.now
    (levels_left c.split_first.result.1)
    (sym (ap levels c.text.ensures.text) ∙ c.split_first.ensures)
    (sym c.eq.ensures ∙ c.if-eq.false) (sym c.eq-else-eq.ensures ∙ c.if-eq-2.false)
    (sym (ap (λ b. is_filled b c.split_first.result.0.now) c.is_pattern.ensures)
    ∙ sym c.is_filled.ensures ∙ c.if-is_filled.false)
    (sym c.fits.ensures ∙ not-true c.fits.result t)
