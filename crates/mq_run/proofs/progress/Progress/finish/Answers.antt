use Rattle.mq_run.proofs.StepLemmas.{ends_flushed}
use Rattle.std.proofs.Common.{rules}
use Rattle.std.proofs.lemmas.Result.{err_from_is_err_and}
use Rattle.mq_run.proofs.progress.Progress.finish.Goals as goal

pub returns-in_err-answer_last-clause-ends : goal.returns-in_err-answer_last-clause-ends
returns-in_err-answer_last-clause-ends g c =
    let fault = err_from_is_err_and c.from_residual.result c.from_residual.ensures.1 in
    rw (fault.1, fault.2) c.in_err-answer_last.ensures.ends

pub returns-in_err-answer_last-clause-counted : goal.returns-in_err-answer_last-clause-counted
returns-in_err-answer_last-clause-counted g c =
    let fault = err_from_is_err_and c.from_residual.result c.from_residual.ensures.1 in
    rw (fault.1, fault.2) c.in_err-answer_last.ensures.counted

pub returns-in_err-answer_last-clause-flushed : goal.returns-in_err-answer_last-clause-flushed
returns-in_err-answer_last-clause-flushed g c =
    let fault = err_from_is_err_and c.from_residual.result c.from_residual.ensures.1 in
    rw (fault.1) tt

pub returns-clause-ends : goal.returns-clause-ends
returns-clause-ends g c = search (rules, ends_flushed)

pub returns-clause-flushed : goal.returns-clause-flushed
returns-clause-flushed g c = search (rules, ends_flushed)
