use Rattle.std.proofs.Common.{◌≡◌}
use Rattle.mq_ask.specs.declared.outcome.Outcome.TheVariants.{Clear, Remark}
use Rattle.mq_ask_reach.proofs.reach.outcome_of.Goals as goal

pub returns-in-None-clause-clear : goal.returns-in-None-clause-clear
returns-in-None-clause-clear c = λ e. absurd (let bad : Remark ≡ Clear = e in cc)
