use Rattle.mq_acl_args.proofs.CommandLineLemmas.{of_version}
use Rattle.mq_acl_args.proofs.command_line.version_fault.Goals as goal

pub returns-in-Ok : goal.returns-in-Ok
returns-in-Ok c = λ is words kinds has.
    of_version words kinds c.args.error.now c.in-Ok.text is has
