use Rattle.std.proofs.Common.{arith}
use Rattle.std.proofs.lemmas.Grind.{text_groups}
use Rattle.std.proofs.lemmas.Result.{err_from_is_err_and}
use Rattle.mq_reach.proofs.tracked.add_place.Goals as goal

pub returns-in_err-push-clause-err : goal.returns-in_err-push-clause-err
returns-in_err-push-clause-err c =
    let fault = err_from_is_err_and c.from_residual-in_err-push.result
    c.from_residual-in_err-push.ensures.1 in
    rw fault.1 (λ other. grind (arith, text_groups))

pub returns-clause-ok : goal.returns-clause-ok
returns-clause-ok c = λ other. grind (arith, text_groups)
