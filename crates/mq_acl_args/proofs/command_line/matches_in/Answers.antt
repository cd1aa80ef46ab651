use Rattle.std.proofs.Common.{◌≡◌, ◌∙◌, true, refl, ap, subst, IfOk, map, string_bytes}
use Rattle.std.proofs.lemmas.Result.{IfOk-weaker}
use Rattle.clap.specs.Words.{App, FailsBy, HasMatchesOf, fault_of, is_simple, is_simple_and_free}
use Rattle.clap.specs.Words.{subcommand_of, subcommand_rows_of}
use Rattle.clap.proofs.OnLiterals.{clap_on_literals}
use Rattle.mq_acl_args.specs.CommandLine.{mqroute_acl}
use Rattle.mq_acl_args.proofs.command_line.matches_in.Goals as goal

simple_and_free : is_simple_and_free mqroute_acl ≡ true
unfolding clap_on_literals
simple_and_free = refl

simple : is_simple mqroute_acl ≡ true
unfolding clap_on_literals
simple = refl

pub returns-clause-rows : goal.returns-clause-rows
returns-clause-rows c =
    let app_is = c.in_ok-command.ensures in
    let words = map string_bytes c.args.words.now in
    IfOk-weaker c.try_get_matches_from.result (HasMatchesOf mqroute_acl words)
    (λ m. subcommand_rows_of m ≡ subcommand_of mqroute_acl words) (λ m h. (h simple).1)
    (subst (λ (a : App). IfOk c.try_get_matches_from.result (HasMatchesOf a words)) app_is
    c.try_get_matches_from.ensures.matches)

pub returns-clause-kinds : goal.returns-clause-kinds
returns-clause-kinds c =
    let app_is = c.in_ok-command.ensures in
    subst (λ (a : App). FailsBy (fault_of a (map string_bytes c.args.words.now))
    c.try_get_matches_from.result) app_is
    (c.try_get_matches_from.ensures.kinds (ap is_simple_and_free app_is ∙ simple_and_free))
