use Rattle.std.proofs.Common.{◌≡◌, drop, map}
use Rattle.clap.specs.Words.{app_of}
use Rattle.mq_acl_args.specs.CommandLine.{app_for, with_apps}
use Rattle.mq_acl_args.proofs.command_line.wanting_one_of.Given as goal

-- the subcommands that are left make the rest of the command
abbrev pub invariant-loop-subcommand : goal.invariant-loop-subcommand
invariant-loop-subcommand l =
    with_apps (app_of l.command) (map app_for (drop l.subcommand-index l.subcommands))
    ≡ with_apps (app_of l.initial.command) (map app_for l.subcommands)
