use Rattle.std.proofs.Common.{◌∙◌, ap}
use Rattle.std.proofs.lemmas.Result.{IfOk-weaker}
use Rattle.clap.specs.Words.{with_subcommand}
use Rattle.mq_acl_args.specs.CommandLine.{versioned, wanting, compare, why, lint, reach, who, test}
use Rattle.mq_acl_args.proofs.command_line.command.Goals as goal

pub returns : goal.returns
returns c =
    IfOk-weaker c.wanting_one_of.result _ _
    (λ whole e. e ∙ ap (λ a. with_subcommand (with_subcommand (with_subcommand (with_subcommand
    (with_subcommand (with_subcommand (wanting (versioned a)) compare.top) why.top) lint.top) reach.top)
    who.top) test.top)
    c.described-named.ensures.app)
    c.wanting_one_of.ensures
