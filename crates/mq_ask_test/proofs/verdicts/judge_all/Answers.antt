use Rattle.std.proofs.Common.{◌∙◌, ap, map}
use Rattle.std.proofs.lemmas.Result.{err_from_is_err_and}
use Rattle.mq_expect.specs.Files.{numbered_views}
use Rattle.mq_ask_test.proofs.VerdictLemmas.{asked_more, fault_at, verdicts_more}
use Rattle.mq_ask_test.specs.Questions.{asked_views, questions}
use Rattle.mq_ask_test.proofs.verdicts.judge_all.Goals as goal

pub returns-in_err-finding-clause-fault : goal.returns-in_err-finding-clause-fault
returns-in_err-finding-clause-fault c =
    let fault = err_from_is_err_and c.from_residual-in_err-finding.result
    c.from_residual-in_err-finding.ensures.1 in
    rw (fault.1, fault.2) (fault_at c.args.rules c.args.lists.now c.args.steps
    c.deref-one-items.result.now
    (questions (map (λ file. file.now) c.args.given.now) (numbered_views c.args.expectations.now))
    c.loop-one.one-index c.one-item.result c.in_err-finding.field-0.0
    (ap asked_views c.deref-one-items.ensures.value ∙ c.in_ok-asked.ensures) c.loop-one-test.true
    c.one-item.is c.in_err-finding.ensures.fault)

pub loop-one-preserved : goal.loop-one-preserved
loop-one-preserved c = record {
  asked = rw c.in_ok-add.ensures (asked_more c.loop-one.all.items c.deref-one-items.result.now
      c.loop-one.one-index c.one-item.result c.in_ok-finding.finding c.loop-one-test.true
      c.one-item.is c.loop-one.invariant.asked);
  verdicts = rw c.in_ok-add.ensures (verdicts_more c.args.rules c.args.lists.now c.loop-one.all.items
      c.one-item.result c.in_ok-finding.finding c.loop-one.invariant.verdicts
      c.in_ok-finding.ensures.finding);
}
