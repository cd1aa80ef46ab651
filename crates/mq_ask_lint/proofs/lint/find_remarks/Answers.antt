use Rattle.std.proofs.Common.{◌∙◌, IfErr, Result, ap, inl, refl, subst, sym}
use Rattle.std.proofs.lemmas.Result.{IfOk-from_err, err_from_is_err_and}
use Rattle.mq_ask_lint.specs.Lint.{IsLintFailure}
use Rattle.mq_ask_lint.specs.Lint.{has_fault}
use Rattle.mq_ask_lint.specs.declared.lint.Remarks.{Remarks}
use Rattle.mq_ask.specs.declared.failure.Failure.{Failure}
use Rattle.mq_ask_lint.proofs.LintLemmas.{faulty_of}
use Rattle.mq_ask_lint.proofs.lint.find_remarks.Goals as goal

pub returns-in_err-odd-clause-ok : goal.returns-in_err-odd-clause-ok
returns-in_err-odd-clause-ok c = IfOk-from_err c.from_residual.result _ c.from_residual.ensures.0

pub returns-in_err-needless-clause-ok : goal.returns-in_err-needless-clause-ok
returns-in_err-needless-clause-ok c =
    IfOk-from_err c.from_residual-in_err-needless.result _ c.from_residual-in_err-needless.ensures.0

pub returns-clause-err : goal.returns-clause-err
returns-clause-err c = tt

pub returns-in_err-check_foreign-clause-err : goal.returns-in_err-check_foreign-clause-err
returns-in_err-check_foreign-clause-err c =
    let P : Failure → Type 0 = IsLintFailure c.args.rules c.args.list c.args.steps in
    let fault = err_from_is_err_and c.from_residual-in_err-check_foreign.result
    c.from_residual-in_err-check_foreign.ensures.1 in
    let what = c.in_err-check_foreign.ensures in
    let faulty = faulty_of c.args.rules c.args.list.text.now c.in_ok-odd.odd.items
    (ap has_fault (sym c.deref.ensures.value) ∙ (sym c.has_fault.ensures ∙ c.if-has_fault.true))
    c.in_ok-odd.ensures.faults in
    subst (λ (r : Result Remarks Failure). IfErr r P) (sym fault.1)
    (subst P (sym fault.2) (subst P (sym what.1) (inl (refl, faulty))))
