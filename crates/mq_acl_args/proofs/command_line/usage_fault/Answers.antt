use Rattle.std.proofs.Common.{◌∙◌, sym}
use Rattle.mq_acl_args.proofs.CommandLineLemmas.{of_usage}
use Rattle.mq_acl_args.proofs.command_line.usage_fault.Goals as goal

pub returns-in-DisplayVersion : goal.returns-in-DisplayVersion
returns-in-DisplayVersion c = c.version_fault.ensures (sym c.kind.ensures ∙ c.in-DisplayVersion.is)

pub returns-in_default : goal.returns-in_default
returns-in_default c = λ words kinds has.
    of_usage words kinds c.args.error.now c.of.result
    (λ e. c.in_default.not-DisplayVersion (c.kind.ensures ∙ e)) c.of.ensures has
