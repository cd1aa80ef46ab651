use Rattle.std.proofs.lemmas.Result.{IfOk-from_err}
use Rattle.mq_ask_reach.proofs.reach.find_topic.Goals as goal

pub returns-in_err-filter-clause-ok : goal.returns-in_err-filter-clause-ok
returns-in_err-filter-clause-ok c = IfOk-from_err c.from_residual.result _ c.from_residual.ensures.0

pub returns-in_err-rows-clause-ok : goal.returns-in_err-rows-clause-ok
returns-in_err-rows-clause-ok c =
    IfOk-from_err c.from_residual-in_err-rows.result _ c.from_residual-in_err-rows.ensures.0
