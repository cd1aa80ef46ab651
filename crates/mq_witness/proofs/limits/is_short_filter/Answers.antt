use Rattle.std.proofs.Common.{ap, sym, ◌∙◌}
use Rattle.mq_witness.specs.Limits.{has_short_levels}
use Rattle.mq_witness.proofs.LimitLemmas.{filter_usable}
use Rattle.mq_witness.proofs.limits.is_short_filter.Goals as goal

pub returns-clause-usable : goal.returns-clause-usable
returns-clause-usable c = λ short. filter_usable c.args.row.now.filter c.text.ensures.valid
    (ap has_short_levels (sym c.text.ensures.text) ∙ sym c.has_short_levels.ensures ∙ short)
