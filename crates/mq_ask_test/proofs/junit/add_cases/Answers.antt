use Rattle.std.proofs.Common.{◌++◌, append_assoc}
use Rattle.mq_ask_test.specs.Junit.{case_text}
use Rattle.mq_ask_test.proofs.JunitLemmas.{one_more}
use Rattle.mq_print.specs.Lists.{lines_view}
use Rattle.mq_ask_test.proofs.junit.add_cases.Goals as goal

pub loop-verdict-preserved : goal.loop-verdict-preserved
loop-verdict-preserved c =
    let view = lines_view c.args.expectations in
    let first = c.loop-verdict.invariant in
    let added = c.in_ok-add_case.ensures in (
      first.0 ++ case_text view c.verdict-item.result added.0,
      one_more view c.args.verdicts.now c.loop-verdict.verdict-index c.verdict-item.result first.0
          added.0 c.loop-verdict-test.true c.verdict-item.is first.1,
      rw (added.1, first.2) (simp append_assoc),
    )
