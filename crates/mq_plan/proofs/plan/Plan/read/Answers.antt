use Rattle.std.proofs.Common.{sym, ◌∙◌}
use Rattle.mq_acl.specs.Lines.{lines}
use Rattle.mq_plan.specs.Rules.{faults_in}
use Rattle.mq_plan.proofs.OwnLemmas.{fault_is_own}
use Rattle.mq_plan.proofs.SideLemmas.{none_first}
use Rattle.mq_plan.proofs.plan.Plan.read.Goals as goal

pub returns-in-Some-clause-memory : goal.returns-in-Some-clause-memory
returns-in-Some-clause-memory c = λ none.
    absurd (fault_is_own (lines c.args.text.now) c.in-Some.fault
    (sym c.first_fault.ensures ∙ c.in-Some.is) none)

pub rules_in-requires : goal.rules_in-requires
rules_in-requires c =
    none_first (faults_in (lines c.args.text.now)) (sym c.first_fault.ensures ∙ c.in_default.is)
