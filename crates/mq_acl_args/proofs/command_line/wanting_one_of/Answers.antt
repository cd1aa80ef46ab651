use Rattle.std.proofs.Common.{◌∙◌, ap, map, refl}
use Rattle.clap.specs.Simple.{app_of_fields}
use Rattle.mq_acl_args.specs.CommandLine.{app_for, wanting, with_apps}
use Rattle.mq_acl_args.proofs.CommandLineLemmas.{subcommand_added, subcommands_added}
use Rattle.mq_acl_args.proofs.command_line.wanting_one_of.Goals as goal

pub loop-subcommand-init : goal.loop-subcommand-init
loop-subcommand-init c = refl

pub loop-subcommand-preserved : goal.loop-subcommand-preserved
loop-subcommand-preserved c =
    subcommand_added c.loop-subcommand.command c.in_ok-command-2.command c.args.subcommands.now
    c.loop-subcommand.subcommand-index _ c.loop-subcommand-test.true c.in_ok-command-2.ensures
    (c.in_ok-command.ensures.app, c.in_ok-command.ensures.local) c.loop-subcommand.invariant

pub returns : goal.returns
returns c =
    let at = c.loop-subcommand in
    let subcommands = c.args.subcommands.now in
    subcommands_added at.command subcommands at.subcommand-index c.loop-subcommand-test.false
    at.invariant
    ∙ ap (λ a. with_apps a (map app_for subcommands))
    (ap app_of_fields c.subcommand_required-command.ensures
    ∙ ap wanting (ap app_of_fields c.version-versioned.ensures))
