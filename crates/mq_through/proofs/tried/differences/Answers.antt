use Rattle.mq_through.proofs.FaultLemmas.{compare_stops}
use Rattle.mq_through.proofs.tried.differences.Goals as goal

pub stop-requires : goal.stop-requires
stop-requires c =
    compare_stops c.args.old.now c.args.new.now c.args.steps c.in-Err.fault c.requires.old
    c.requires.new c.in-Err.ensures.fault

pub returns-in-Err-clause-fault : goal.returns-in-Err-clause-fault
returns-in-Err-clause-fault c =
    c.stop.ensures c.args.old.now c.args.new.now c.args.steps c.in-Err.ensures.fault
