-- A command that its arguments are added to.
use Rattle.std.proofs.Common.{◌≡◌, ◌∙◌, ◌||◌, ◌+◌, ◌<◌, ◌≤◌, ℕ, List, ap, ap₂, drop, false}
use Rattle.std.proofs.Common.{get_or, length, map, sym}
use Rattle.std.proofs.lemmas.List.{at_drop_more, drop_all}
use Rattle.clap.specs.Words.{App, AddsArg, app_of, rule_of, with_rule}
use Rattle.clap.specs.declared.builder.arg.Arg.{Arg}
use Rattle.clap.specs.declared.builder.command.Command.{Command}
use Rattle.clap.specs.declared.builder.command.Command.TheViews.{out-Command as fields_of}
use Rattle.mq_args.specs.Arguments.{rule_for, with_rules}
use Rattle.mq_args.specs.declared.argument.Argument.{Argument}

-- a command with one more argument: those that are left make the same whole of it
pub argument_added : (old new : Command) {arg : Arg} (all : List Argument) (i : ℕ) (d : Argument)
    {whole : App} → i < length all → AddsArg old arg new
    → (rule_of arg ≡ rule_for (get_or all i d)) × (arg.global ≡ false)
    → with_rules (app_of old) (map rule_for (drop i all)) ≡ whole
    → with_rules (app_of new) (map rule_for (drop (i + 1) all)) ≡ whole
argument_added old new all i d is_in added is_arg so_far =
    ap (λ a. with_rules a (map rule_for (drop (i + 1) all)))
    (added.shape is_arg.1 ∙ ap (with_rule (app_of old)) is_arg.0)
    ∙ sym (at_drop_more (λ rest. with_rules (app_of old) (map rule_for rest)) all i d is_in)
    ∙ so_far

-- and none is for subcommands too
pub argument_local : (old new : Command) {arg : Arg} → AddsArg old arg new → arg.global ≡ false
    → (fields_of old).has_globals ≡ false → (fields_of new).has_globals ≡ false
argument_local old new added is_local so_far = added.globals ∙ ap₂ ◌||◌ so_far is_local

-- where none is left, that is the command
pub all_added : (made : Command) (all : List Argument) (i : ℕ) {whole : App} → length all ≤ i
    → with_rules (app_of made) (map rule_for (drop i all)) ≡ whole → app_of made ≡ whole
all_added made all i is_past so_far =
    ap (λ rest. with_rules (app_of made) (map rule_for rest)) (sym (drop_all i all is_past))
    ∙ so_far
