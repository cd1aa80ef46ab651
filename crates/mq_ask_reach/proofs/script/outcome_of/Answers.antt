use Rattle.std.proofs.Common.{◌≡◌}
use Rattle.mq_ask.specs.declared.outcome.Outcome.TheVariants.{Clear, Remark}
use Rattle.mq_ask_reach.proofs.script.outcome_of.Goals as goal

pub returns-clause-clear : goal.returns-clause-clear
returns-clause-clear c = λ e. absurd (let bad : Remark ≡ Clear = e in cc)
