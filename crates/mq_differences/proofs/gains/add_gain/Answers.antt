use Rattle.mq_differences.specs.Questions.{gain_cover, gain_must}
use Rattle.mq_differences.proofs.EveryLemmas.{never_shown}
use Rattle.mq_differences.proofs.gains.add_gain.Goals as goal

pub returns-then-not-met-clause-shown : goal.returns-then-not-met-clause-shown
returns-then-not-met-clause-shown c =
    never_shown c.args.question.now (gain_must c.args.gain.now) (gain_cover c.args.gain.now)
    _ (c.in_ok-met.ensures c.if-not-met.true)
