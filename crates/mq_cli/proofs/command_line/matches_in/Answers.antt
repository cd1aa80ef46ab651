use Rattle.std.proofs.Common.{◌≡◌, ◌∙◌, true, inl, refl, ap, subst, map, string_bytes}
use Rattle.std.proofs.lemmas.Result.{IfOk-weaker, err_from_is_err_and}
use Rattle.clap.specs.Words.{App, FailsBy, HasMatchesOf, fault_of, is_simple, is_simple_and_free}
use Rattle.clap.proofs.OnLiterals.{clap_on_literals}
use Rattle.mq_cli.specs.CommandLine.{mqroute}
use Rattle.mq_cli.proofs.command_line.matches_in.Goals as goal

simple : is_simple mqroute ≡ true
unfolding clap_on_literals
simple = refl

simple_and_free : is_simple_and_free mqroute ≡ true
unfolding clap_on_literals
simple_and_free = refl

pub returns-in_err-command-clause-rows : goal.returns-in_err-command-clause-rows
returns-in_err-command-clause-rows c =
    let fault = err_from_is_err_and c.from_residual.result c.from_residual.ensures.1 in
    rw (fault.1) tt

pub returns-in_err-command-clause-kinds : goal.returns-in_err-command-clause-kinds
returns-in_err-command-clause-kinds c =
    let fault = err_from_is_err_and c.from_residual.result c.from_residual.ensures.1 in
    rw (fault.1) (inl fault.2)

pub returns-clause-rows : goal.returns-clause-rows
returns-clause-rows c =
    IfOk-weaker c.try_get_matches_from.result _ _
    (λ m has. (subst (λ (a : App). HasMatchesOf a (map string_bytes c.args.words.now) m)
    c.in_ok-command.ensures has simple).0)
    c.try_get_matches_from.ensures.matches

pub returns-clause-kinds : goal.returns-clause-kinds
returns-clause-kinds c =
    let app_is = c.in_ok-command.ensures in
    subst (λ (a : App). FailsBy (fault_of a (map string_bytes c.args.words.now))
    c.try_get_matches_from.result) app_is
    (c.try_get_matches_from.ensures.kinds (ap is_simple_and_free app_is ∙ simple_and_free))
