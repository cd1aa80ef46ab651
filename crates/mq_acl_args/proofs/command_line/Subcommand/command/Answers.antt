use Rattle.std.proofs.Common.{◌∙◌, ap, map}
use Rattle.std.proofs.lemmas.Result.{IfOk-weaker}
use Rattle.mq_args.specs.Arguments.{rule_for, with_rules}
use Rattle.mq_acl_args.proofs.command_line.Subcommand.command.Goals as goal

pub returns-clause-app : goal.returns-clause-app
returns-clause-app c =
    IfOk-weaker c.with_arguments.result _ _
    (λ made e. e ∙ ap (λ a. with_rules a (map rule_for c.args.self.now.arguments.now))
    c.described-named.ensures.app)
    c.with_arguments.ensures.app

pub returns-clause-local : goal.returns-clause-local
returns-clause-local c = c.with_arguments.ensures.local c.described-named.ensures.local
