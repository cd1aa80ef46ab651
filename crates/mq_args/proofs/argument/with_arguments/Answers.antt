use Rattle.std.proofs.Common.{refl}
use Rattle.mq_args.proofs.ArgumentLemmas.{argument_added, argument_local, all_added}
use Rattle.mq_args.proofs.argument.with_arguments.Goals as goal

pub loop-argument-init : goal.loop-argument-init
loop-argument-init c = (refl, λ is_local. is_local)

pub loop-argument-preserved : goal.loop-argument-preserved
loop-argument-preserved c = (
  argument_added c.loop-argument.command c.in_ok-command.command c.args.arguments.now
      c.loop-argument.argument-index _ c.loop-argument-test.true c.in_ok-command.ensures
      (c.in_ok-arg.ensures.rule, c.in_ok-arg.ensures.local) c.loop-argument.invariant.0,
  λ is_local. argument_local c.loop-argument.command c.in_ok-command.command
      c.in_ok-command.ensures c.in_ok-arg.ensures.local (c.loop-argument.invariant.1 is_local),
)

pub returns-clause-app : goal.returns-clause-app
returns-clause-app c =
    let at = c.loop-argument in
    all_added at.command c.args.arguments.now at.argument-index c.loop-argument-test.false
    at.invariant.0

pub returns-clause-local : goal.returns-clause-local
returns-clause-local c = c.loop-argument.invariant.1
