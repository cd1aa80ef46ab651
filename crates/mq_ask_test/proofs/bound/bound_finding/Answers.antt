use Rattle.std.proofs.Common.{sym}
use Rattle.mq_ask_test.proofs.BoundLemmas.{beyond, within}
use Rattle.mq_ask_test.proofs.bound.bound_finding.Goals as goal

pub returns-in-Some-clause-finding : goal.returns-in-Some-clause-finding
returns-in-Some-clause-finding c =
    beyond c.args.rules c.args.bound.rows.now c.args.list.rows.now c.args.way
    c.in-Ok.differences.items c.in-Some.difference (sym c.in-Some.ensures) c.in-Ok.ensures.real

pub returns-in-None-clause-finding : goal.returns-in-None-clause-finding
returns-in-None-clause-finding c =
    within c.args.rules c.args.bound.rows.now c.args.list.rows.now c.in-Ok.differences.items
    c.in-Ok.ensures.every c.args.way (sym c.in-None.ensures)

pub returns-in-Err-clause-fault : goal.returns-in-Err-clause-fault
returns-in-Err-clause-fault c =
    c.bound_fault.ensures c.args.rules c.args.steps c.in-Err.ensures.fault
