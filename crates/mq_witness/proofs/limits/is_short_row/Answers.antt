use Rattle.std.proofs.Common.{ap, sym, ◌∙◌, refl}
use Rattle.mq_acl.specs.Views.{row_view}
use Rattle.mq_witness.specs.Limits.{has_short_levels}
use Rattle.mq_witness.proofs.LimitLemmas.{row_usable}
use Rattle.mq_witness.proofs.limits.is_short_row.Goals as goal

pub returns-then-has_short_levels-clause-usable : goal.returns-then-has_short_levels-clause-usable
returns-then-has_short_levels-clause-usable c = λ short.
    let levels = ap has_short_levels (sym c.text.ensures.text)
    ∙ sym c.has_short_levels.ensures ∙ c.if-has_short_levels.true in
    row_usable (row_view c.args.row.now) c.text.ensures.valid
    (rw (levels, sym c.is_short_owner.ensures ∙ short) refl)
