use Rattle.mq_ask_lint.proofs.lint.needless_in.Goals as goal

pub returns-in-Err-clause-err : goal.returns-in-Err-clause-err
returns-in-Err-clause-err c = c.needless_failure.ensures c.args.steps c.in-Err.ensures.fault
