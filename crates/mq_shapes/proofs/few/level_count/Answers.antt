use Rattle.std.proofs.Common.{◌∙◌, sym}
use Rattle.mq_shapes.proofs.CountLemmas.{one_makes, user_makes}
use Rattle.mq_shapes.proofs.few.level_count.Goals as goal

pub returns-then-is_mark : goal.returns-then-is_mark
returns-then-is_mark c = user_makes c.args.pattern c.args.user c.args.level.now
    (sym c.is_mark.ensures ∙ c.if-is_mark.true)

pub returns : goal.returns
returns c = one_makes c.args.pattern c.args.user c.args.level.now c.requires
    (sym c.is_filled.ensures ∙ c.if-is_filled.false)
