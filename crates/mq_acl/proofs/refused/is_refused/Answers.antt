use Rattle.std.proofs.Common.{◌∙◌, sym}
use Rattle.mq_acl.proofs.RefusedLemmas.{writing_is}
use Rattle.mq_acl.proofs.refused.is_refused.Goals as goal

pub returns-in-Writing : goal.returns-in-Writing
returns-in-Writing c = c.is_kept.ensures
    ∙ sym (writing_is c.args.direction c.args.text.now c.in-Writing.is
    (sym c.begins_shared.ensures ∙ c.if-begins_shared.false))
