-- The command line of the program, in the words of `clap`.
use Rattle.std.specs.Prelude.{◌≡◌, ◌↔◌, ℕ, List, [], ◌∷◌, Option, Some, None, is_some}
use Rattle.std.specs.Prelude.{option_map, option_and_then, unwrap_or, if◌then◌else◌}
use Rattle.std.specs.Prelude.{codes, string_bytes, IsTrue}
use Rattle.std.specs.Option.{option_map_or}
use Rattle.clap.specs.Kinds.{or_else}
use Rattle.clap.specs.Words.{App, Kinds, Rule, Text, new_app, with_rule, first_of, one_of}
use Rattle.clap.specs.Words.{fault_of, matches_of}
use Rattle.clap.specs.declared.error.ErrorKind.TheVariants.{InvalidValue}
use Rattle.mq_acl.specs.AccessLists.{rules_named}
use Rattle.mq_acl.specs.declared.rules.Rules.{Rules}
use Rattle.mq_acl.specs.declared.rules.Rules.TheVariants.{Own}
use Rattle.mq_args.specs.Arguments.{flag, number_option, option, optional_argument}
use Rattle.mq_args.specs.Numbers.{number_in}
use Rattle.mq_cli.specs.declared.command_line.Options.{Options}

-- `--acl-file FILE`
abbrev pub acl_file : Rule
acl_file = option (codes "acl-file")

-- `--rules RULES`
abbrev pub rules : Rule
rules = option (codes "rules")

-- `--unbuffered`
abbrev pub unbuffered : Rule
unbuffered = flag (codes "unbuffered")

-- `SCRIPT`
abbrev pub script : Rule
script = optional_argument (codes "script")

-- `mqroute [--acl-file FILE] [--rules RULES] [--max-retained N] [--max-queued N] [--unbuffered] [SCRIPT]`
abbrev pub mqroute : App
mqroute =
    with_rule (with_rule (with_rule (with_rule (with_rule (with_rule (new_app (codes "mqroute"))
    acl_file) rules) (number_option (codes "max-retained"))) (number_option (codes "max-queued")))
    unbuffered) script

-- the value of an option in the words
abbrev pub given : Text → List Text → Option Text
given id words = first_of id (matches_of mqroute words)

-- the number of an option in the words
abbrev pub number_given : Text → List Text → Option ℕ
number_given id words = option_and_then number_in (one_of id (matches_of mqroute words))

-- the rules that the words name, or our own where they name none; none where they name unknown ones
abbrev pub rules_asked : List Text → Option Rules
rules_asked words = option_map_or rules_named (given (codes "rules") words) (Some Own)

-- the rules in the words
abbrev pub rules_given : List Text → Rules
rules_given words = unwrap_or (rules_asked words) Own

-- why the words are not understood: what `clap` says, and where it takes them that they name unknown rules
abbrev pub faults_in : List Text → Kinds
faults_in words =
    or_else (fault_of mqroute words)
    (if is_some (rules_asked words) then [] else InvalidValue ∷ [])

-- a flag is among the words
abbrev pub IsGiven : Text → List Text → Type 0
IsGiven id words = one_of id (matches_of mqroute words) ≡ Some (codes "true")

-- the options are those of the words
pub record AreGiven (words : List Text) (options : Options) : Type 0 where
  pub acl_file : option_map string_bytes options.acl_file ≡ given (codes "acl-file") words
  pub rules : Some options.rules ≡ rules_asked words
  pub max_retained : options.max_retained ≡ number_given (codes "max-retained") words
  pub max_queued : options.max_queued ≡ number_given (codes "max-queued") words
  pub unbuffered : IsTrue options.unbuffered ↔ IsGiven (codes "unbuffered") words
  pub script : option_map string_bytes options.script ≡ given (codes "script") words
