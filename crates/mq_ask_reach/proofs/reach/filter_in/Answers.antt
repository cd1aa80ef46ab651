use Rattle.mq_ask_reach.proofs.reach.filter_in.Goals as goal

pub returns-in-Ok-clause-err : goal.returns-in-Ok-clause-err
returns-in-Ok-clause-err c = tt

pub returns-in-Err-Memory-clause-ok : goal.returns-in-Err-Memory-clause-ok
returns-in-Err-Memory-clause-ok c = tt
