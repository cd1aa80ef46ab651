use Rattle.std.proofs.Common.{ap, sym, ◌∙◌}
use Rattle.mq_topic.specs.Levels.{levels}
use Rattle.mq_rename.specs.Lists.{texts}
use Rattle.mq_regions.specs.Regions.{has_mark, is_taken}
use Rattle.mq_through.proofs.IdleLemmas.{idle_row}
use Rattle.mq_through.proofs.idle.is_idle.Goals as goal

pub returns : goal.returns
returns c = λ yes.
    idle_row c.args.region.now c.args.row.now
    (sym c.is_pattern.ensures ∙ c.if-not-is_pattern.false)
    (ap (λ t. has_mark (levels t)) (sym c.text.ensures.text) ∙ sym c.has_mark.ensures
    ∙ c.if-has_mark.false)
    (λ n h g. ap (λ ts. is_taken (texts ts) n) (sym c.deref.ensures.value)
    ∙ c.in_ok-all.ensures yes n h g)
