use Rattle.std.proofs.Common.{map, subst, sym}
use Rattle.mq_ask_test.specs.Findings.{SaysWhetherAll}
use Rattle.mq_ask_test.specs.Questions.{asked_view}
use Rattle.mq_ask_test.proofs.VerdictLemmas.{all_shown}
use Rattle.mq_ask_test.proofs.verdicts.all_hold.Goals as goal

pub returns-clause-shown : goal.returns-clause-shown
returns-clause-shown c rules lists h =
    subst (SaysWhetherAll rules lists (map (λ v. asked_view v.asked) c.args.verdicts.now))
    (sym c.each_holds.ensures) (all_shown rules lists c.args.verdicts.now h)
