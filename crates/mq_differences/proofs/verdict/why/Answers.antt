use Rattle.std.proofs.Common.{ap, sym, ◌∙◌}
use Rattle.std.specs.Option.{option_copied}
use Rattle.mq_differences.specs.Reasons.{is_grant}
use Rattle.mq_differences.proofs.DeciderLemmas.{allowed_is}
use Rattle.mq_differences.proofs.verdict.why.Goals as goal

pub returns-clause-allowed : goal.returns-clause-allowed
returns-clause-allowed c = ap is_grant c.reason_for.ensures
    ∙ sym (allowed_is c.args.rules c.args.rows.now c.args.client.now (option_copied c.args.user)
    c.args.topic.now c.args.direction)
