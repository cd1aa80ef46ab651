use Rattle.mq_expect.specs.Views.{claim_view}
use Rattle.mq_ask_test.proofs.said.claim_finding.Goals as goal

pub returns-in-Ok-clause-finding : goal.returns-in-Ok-clause-finding
returns-in-Ok-clause-finding c = c.judged.ensures c.args.rules c.args.list.rows.now
    (claim_view c.args.claim.now) c.in-Ok.ensures.judgement

pub returns-in-Err-clause-finding : goal.returns-in-Err-clause-finding
returns-in-Err-clause-finding c = c.not_judged.ensures.finding c.args.rules c.args.steps
    (claim_view c.args.claim.now) c.in-Err.ensures.fault

pub returns-in-Err-clause-fault : goal.returns-in-Err-clause-fault
returns-in-Err-clause-fault c = c.not_judged.ensures.fault c.args.rules c.args.steps
    (claim_view c.args.claim.now) c.in-Err.ensures.fault
