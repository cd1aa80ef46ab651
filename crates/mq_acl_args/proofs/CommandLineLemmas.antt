-- What the words of a command line ask for.
use Rattle.std.proofs.Common.{◌≡◌, ◌≢◌, ◌∙◌, ◌+◌, ◌<◌, ◌≤◌, ℕ, List, [], ◌∷◌, ap, drop, false}
use Rattle.std.proofs.Common.{Global, String, Option, Some, None, get_or, inl, inr, length, map, refl, subst, sym}
use Rattle.std.specs.Prelude.{unwrap_or}
use Rattle.std.proofs.lemmas.List.{at_drop_more, drop_all}
use Rattle.clap.specs.Words.{App, AddsSubcommand, HasKind, IsAmong, Kinds, Text, app_of}
use Rattle.clap.specs.Words.{kind_of, subcommand_of}
use Rattle.clap.specs.Words.{with_subcommand}
use Rattle.clap.specs.declared.builder.command.Command.{Command}
use Rattle.clap.specs.declared.builder.command.Command.TheViews.{out-Command as fields_of}
use Rattle.clap.specs.declared.error.Error.{Error}
use Rattle.clap.specs.declared.error.ErrorKind.{ErrorKind}
use Rattle.clap.specs.declared.error.ErrorKind.TheVariants.{DisplayHelp, DisplayVersion}
use Rattle.clap.specs.declared.error.ErrorKind.TheVariants.{InvalidValue, OutOfMemory}
use Rattle.mq_args.specs.Usage as usage
use Rattle.mq_args.specs.declared.usage.UsageFault.{UsageFault}
use Rattle.mq_args.specs.declared.usage.UsageFault.TheVariants.{Help, Usage, Memory}
use Rattle.mq_acl_args.specs.CommandLine.{CanNotBeAsked, IsFaultOf, app_for, asked_by, mqroute_acl}
use Rattle.mq_acl_args.specs.CommandLine.{steps_or_usual, usual_steps, with_apps}
use Rattle.mq_acl_args.specs.declared.command_line.Subcommand.{Subcommand}

-- a command with one more subcommand, which has no argument for subcommands too: those that are
-- left make the same whole of it
pub subcommand_added : (old new : Command) {sub : Command} (all : List Subcommand) (i : ℕ)
    (d : Subcommand) {whole : App} → i < length all → AddsSubcommand old sub new
    → (app_of sub ≡ app_for (get_or all i d)) × ((fields_of sub).has_globals ≡ false)
    → with_apps (app_of old) (map app_for (drop i all)) ≡ whole
    → with_apps (app_of new) (map app_for (drop (i + 1) all)) ≡ whole
subcommand_added old new all i d is_in added is_sub so_far =
    ap (λ a. with_apps a (map app_for (drop (i + 1) all)))
    (added.shape is_sub.1 ∙ ap (λ (a : App). with_subcommand (app_of old) a.top) is_sub.0)
    ∙ sym (at_drop_more (λ rest. with_apps (app_of old) (map app_for rest)) all i d is_in)
    ∙ so_far

-- and where none is left, that is the command
pub subcommands_added : (made : Command) (all : List Subcommand) (i : ℕ) {whole : App}
    → length all ≤ i
    → with_apps (app_of made) (map app_for (drop i all)) ≡ whole → app_of made ≡ whole
subcommands_added made all i is_past so_far =
    ap (λ rest. with_apps (app_of made) (map app_for rest)) (sym (drop_all i all is_past)) ∙ so_far

-- a list of one kind has that alone
only_kind : (k x : ErrorKind) → IsAmong k (x ∷ []) → k ≡ x
only_kind k x (inl e) = e
only_kind k x (inr none) = absurd none

-- of words that `clap` refuses, why it does, unless the version is asked for
pub of_usage : (words : List Text) (kinds : Kinds) (error : Error) (fault : UsageFault)
    → kind_of error ≢ DisplayVersion
    → ((all : Kinds) → HasKind all error → usage.IsFaultOf all fault) → HasKind kinds error
    → IsFaultOf words kinds fault
of_usage words kinds error (Help text) other of has = inl (of kinds has)
of_usage words kinds error (Usage text) other of (inl memory) = absurd (of [] (inl memory)).2
of_usage words kinds error (Usage text) other of (inr among) =
    let own = of (kind_of error ∷ []) (inr (inl refl)) in
    inl (kind_of error, λ e. own.1 (only_kind own.0 (kind_of error) own.2 ∙ e), other, among)
of_usage words kinds error Memory other of has = tt

-- where it is asked for, it is answered as help is
pub of_version : (words : List Text) (kinds : Kinds) (error : Error) (text : String Global)
    → kind_of error ≡ DisplayVersion → HasKind kinds error → IsFaultOf words kinds (Help text)
of_version words kinds error text is (inl memory) =
    absurd (let no : DisplayVersion ≡ OutOfMemory = sym is ∙ memory in cc)
of_version words kinds error text is (inr among) = inr (subst (λ k. IsAmong k kinds) is among)

-- the usual number of steps where none is given
pub steps-unless : (o : Option ℕ) → unwrap_or o 200000000 ≡ steps_or_usual o
unfolding usual_steps
steps-unless None = refl
steps-unless (Some n) = refl

-- of words that `clap` takes and that name no known rules, why they ask nothing
pub of_unknown : (words : List Text) (kinds : Kinds) (fault : UsageFault)
    → usage.IsFaultOf (InvalidValue ∷ []) fault
    → CanNotBeAsked (asked_by (subcommand_of mqroute_acl words)) → IsFaultOf words kinds fault
of_unknown words kinds (Help text) (inl bad) can =
    absurd (let no : DisplayHelp ≡ InvalidValue = bad in cc)
of_unknown words kinds (Help text) (inr bad) can = absurd bad
of_unknown words kinds (Usage text) h can = inr can
of_unknown words kinds Memory h can = h
