use Rattle.std.proofs.Common.{ap, arith}
use Rattle.std.proofs.KnownBytes.{Appends-nil}
use Rattle.std.proofs.lemmas.Result.{err_from_is_err_and}
use Rattle.mq_run.specs.Running.{StopsAtLine}
use Rattle.mq_run.proofs.StepLemmas.{Answers-written, at_ok}
use Rattle.mq_run.proofs.progress.Progress.answer.Goals as goal

pub returns-clause-answers : goal.returns-clause-answers
returns-clause-answers g c =
    Answers-written c.write_all.result c.args.self.now _ c.in_ok-is_refused.is_refused
    c.as_slice.result.now _ _
    (λ w stands. rw (c.clear.ensures.items, c.line.ensures, ← c.as_slice.ensures.value)
    at (c.in_ok-is_refused.ensures.ok w stands))
    (ap (λ s. s.refused) c.with_line-self.ensures) (record {
      all = c.write_all.ensures.ok;
      some = c.write_all.ensures.err;
      kind = c.write_all.ensures.kind;
    })

pub overflow_add-summary : goal.overflow_add-summary
overflow_add-summary g c = omega arith

pub returns-in_err-is_refused-clause-answers : goal.returns-in_err-is_refused-clause-answers
unfolding StopsAtLine
returns-in_err-is_refused-clause-answers g c =
    let fault = err_from_is_err_and c.from_residual.result c.from_residual.ensures.1 in
    rw (fault.1, fault.2) (λ w stands. Appends-nil _)

pub returns-in_err-is_refused-clause-counted : goal.returns-in_err-is_refused-clause-counted
returns-in_err-is_refused-clause-counted g c =
    let fault = err_from_is_err_and c.from_residual.result c.from_residual.ensures.1 in
    rw (fault.1, fault.2) (omega arith)

pub returns-in_err-is_refused-clause-lines : goal.returns-in_err-is_refused-clause-lines
returns-in_err-is_refused-clause-lines g c =
    let fault = err_from_is_err_and c.from_residual.result c.from_residual.ensures.1 in
    rw (fault.1) tt

pub returns-clause-counted : goal.returns-clause-counted
returns-clause-counted g c = c.write_all.ensures.counted

pub returns-clause-lines : goal.returns-clause-lines
returns-clause-lines g c =
    at_ok c.write_all.result _ (ap (λ s. s.lines) c.with_line-self.ensures)
