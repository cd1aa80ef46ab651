use Rattle.std.proofs.Common.{sym, ◌∙◌}
use Rattle.mq_through.proofs.NeededLemmas.{silent}
use Rattle.mq_through.proofs.needed.may_decide.Goals as goal

pub returns : goal.returns
returns c = λ no.
    silent c.args.side c.args.region.now c.args.row.now
    (sym c.is_pattern.ensures ∙ c.if-is_pattern.false) (c.in_ok-may.ensures no)
