-- Arguments in the words of `clap`.
use Rattle.std.specs.Prelude.{List, [], ◌∷◌, Some, true}
use Rattle.clap.specs.Words.{App, Rule, Text, new_rule, with_rule}
use Rattle.clap.specs.declared.builder.action.ArgAction.TheVariants.{Append, SetTrue}
use Rattle.clap.specs.declared.builder.value_parser.ValueParser.TheVariants.{Unsigned}
use Rattle.mq_args.specs.declared.argument.Argument.{Argument}
use Rattle.mq_args.specs.declared.argument.ArgumentKind.{ArgumentKind}
use Rattle.mq_args.specs.declared.argument.ArgumentKind.TheVariants as takes

-- an argument that has to be there
abbrev pub required_argument : Text → Rule
required_argument name = record (new_rule name) { value_names = 1; required = true }

-- one that has to be there, and may be there several times
abbrev pub several_arguments : Text → Rule
several_arguments name = record (required_argument name) { action = Some Append }

-- one that may be left out
abbrev pub optional_argument : Text → Rule
optional_argument name = record (new_rule name) { value_names = 1 }

-- any number of them
abbrev pub any_arguments : Text → Rule
any_arguments name = record (optional_argument name) { action = Some Append }

-- `--NAME VALUE`
abbrev pub option : Text → Rule
option name = record (new_rule name) { long = Some name; value_names = 1 }

-- the same, also taken by an old name
abbrev pub renamed_option : Text → (old : Text) → Rule
renamed_option name old = record (option name) { aliases = old ∷ [] }

-- an option that takes a whole number of 32 bits, with no minus before it
abbrev pub number_option : Text → Rule
number_option name = record (new_rule name) {
  long = Some name;
  value_names = 1;
  parser = Some (Unsigned 0 4294967295);
}

-- `--NAME`
abbrev pub flag : Text → Rule
flag name = record (new_rule name) { long = Some name; action = Some SetTrue }

abbrev pub rule_of_kind : Text → ArgumentKind → Rule
rule_of_kind name takes.Required = required_argument name
rule_of_kind name takes.Several = several_arguments name
rule_of_kind name (takes.Optional value) = optional_argument name
rule_of_kind name takes.Any = any_arguments name
rule_of_kind name (takes.Option value) = option name
rule_of_kind name (takes.Renamed value old) = renamed_option name old.now
rule_of_kind name takes.Number = number_option name
rule_of_kind name takes.Flag = flag name

abbrev pub rule_for : Argument → Rule
rule_for argument = rule_of_kind argument.0.now argument.1

-- a command with these arguments too, in turn
abbrev pub with_rules : App → List Rule → App
with_rules a [] = a
with_rules a (r ∷ rest) = with_rules (with_rule a r) rest
