use Rattle.std.proofs.Common.{◌≡◌, false, drop, map}
use Rattle.clap.specs.Words.{app_of}
use Rattle.clap.specs.declared.builder.command.Command.TheViews.{out-Command as fields_of}
use Rattle.mq_args.specs.Arguments.{rule_for, with_rules}
use Rattle.mq_args.proofs.argument.with_arguments.Given as goal

-- the arguments that are left make the rest of the command
abbrev pub invariant-loop-argument : goal.invariant-loop-argument
invariant-loop-argument l =
    (with_rules (app_of l.command) (map rule_for (drop l.argument-index l.arguments))
    ≡ with_rules (app_of l.initial.command) (map rule_for l.arguments))
    × ((fields_of l.initial.command).has_globals ≡ false
    → (fields_of l.command).has_globals ≡ false)
