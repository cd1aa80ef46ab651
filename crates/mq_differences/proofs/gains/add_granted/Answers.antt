use Rattle.mq_differences.proofs.EveryLemmas.{kept_granted}
use Rattle.mq_differences.proofs.gains.add_granted.Goals as goal

pub returns-then-grant-clause-shown : goal.returns-then-grant-clause-shown
returns-then-grant-clause-shown c =
    kept_granted c.args.question.now _ c.args.before.now c.args.grant.now c.requires.question
    c.requires.placed c.if-grant.true
