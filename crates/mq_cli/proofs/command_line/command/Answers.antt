use Rattle.std.proofs.Common.{◌∷◌, [], ◌∙◌, ap, codes}
use Rattle.std.proofs.lemmas.Result.{IfOk-weaker}
use Rattle.mq_args.specs.Arguments.{number_option, with_rules}
use Rattle.mq_cli.specs.CommandLine.{acl_file, rules, script, unbuffered}
use Rattle.mq_cli.proofs.command_line.command.Goals as goal

pub returns : goal.returns
returns c =
    IfOk-weaker c.with_arguments.result _ _
    (λ made e. e ∙ ap (λ a. with_rules a (acl_file ∷ rules ∷ number_option (codes "max-retained")
    ∷ number_option (codes "max-queued") ∷ unbuffered ∷ script ∷ [])) c.described-named.ensures.app)
    c.with_arguments.ensures.app
