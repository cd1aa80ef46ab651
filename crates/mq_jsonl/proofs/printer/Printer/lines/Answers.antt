use Rattle.std.proofs.Common.{append_assoc, ◌∙◌}
use Rattle.std.proofs.lemmas.Result.{err_from_is_err_and, on_err_weaker}
use Rattle.mq_jsonl.proofs.printer.Printer.lines.Goals as goal

pub returns-in_err-print_all-clause-err : goal.returns-in_err-print_all-clause-err
returns-in_err-print_all-clause-err c =
    let fault = err_from_is_err_and c.from_residual.result c.from_residual.ensures.1 in
    rw fault.1 c.in_err-print_all.ensures.err

pub returns-clause-ok : goal.returns-clause-ok
returns-clause-ok c = rw (c.in_ok-print_all.ensures.ok, c.as_slice.ensures.value, append_assoc)
    at c.closing.ensures.ok

pub returns-clause-err : goal.returns-clause-err
returns-clause-err c =
    on_err_weaker c.closing.result
    (λ e. (_, e ∙ c.in_ok-print_all.ensures.ok)) c.closing.ensures.err
