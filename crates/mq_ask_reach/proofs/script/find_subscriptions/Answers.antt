use Rattle.std.proofs.Common.{◌∙◌, subst, sym, inr}
use Rattle.std.proofs.lemmas.Result.{IfErr-weaker, IfOk-from_err, IfOk-weaker}
use Rattle.mq_reach.specs.Faults.{IsScriptFault}
use Rattle.mq_ask_reach.specs.Script.{FindsUnreached}
use Rattle.mq_ask_reach.proofs.ScriptLemmas.{finds, no_command}
use Rattle.mq_ask_reach.proofs.script.find_subscriptions.Goals as goal

pub returns-in_err-rows-clause-ok : goal.returns-in_err-rows-clause-ok
returns-in_err-rows-clause-ok g c = IfOk-from_err c.from_residual.result _ c.from_residual.ensures.0

pub returns-in-Ok-clause-ok : goal.returns-in-Ok-clause-ok
returns-in-Ok-clause-ok g c =
    let text = c.args.list.text.now in
    let found = rw c.deref.ensures.value at c.in-Ok.ensures.ok in
    IfOk-weaker c.unless_no_command.result _ _ (λ kept is. (
      found.0,
      found.1,
      found.2,
      subst (FindsUnreached c.args.rules text found.0) (sym is.0)
          (finds c.args.rules text found.0 c.in_ok-rows.rows.items c.in-Ok.findings c.in_ok-rows.ensures.ok
          found.3 is.1),
    )) c.unless_no_command.ensures.ok

pub returns-in-Ok-clause-err : goal.returns-in-Ok-clause-err
returns-in-Ok-clause-err g c =
    let found = c.in-Ok.ensures.ok in
    IfErr-weaker c.unless_no_command.result _ _ (λ failure is.
    inr (no_command c.args.rules c.args.list.text.now c.args.script _ _ found.0 c.in-Ok.findings failure found.1 found.2
    found.3.counts is.0 is.1))
    c.unless_no_command.ensures.err

pub returns-clause-ok : goal.returns-clause-ok
returns-clause-ok g c = tt

pub returns-clause-err : goal.returns-clause-err
returns-clause-err g c =
    let before = g.R.Read.remaining c.args.reader.now in
    let after = g.R.Read.remaining c.find_unreached.new.reader in
    c.script_failure.ensures before after
    (subst (λ rows. IsScriptFault c.args.rules rows before after c.in-Err.fault)
    (c.deref.ensures.value ∙ sym c.deref-in-Err.ensures.value) c.in-Err.ensures.err)
