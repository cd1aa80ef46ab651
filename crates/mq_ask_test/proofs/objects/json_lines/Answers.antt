use Rattle.std.proofs.Common.{string_bytes}
use Rattle.mq_ask_test.proofs.ObjectLemmas.{one_more}
use Rattle.mq_print.specs.Lists.{lines_view}
use Rattle.mq_ask_test.proofs.objects.json_lines.Goals as goal

pub loop-verdict-preserved : goal.loop-verdict-preserved
loop-verdict-preserved c =
    let added = c.in_ok-add_verdict.ensures in
    one_more c.args.lists.now (lines_view c.args.expectations) c.args.verdicts.now
    c.loop-verdict.verdict-index c.verdict-item.result (string_bytes c.loop-verdict.text)
    (string_bytes c.add_verdict.new.text) added.0 c.loop-verdict-test.true c.verdict-item.is
    c.loop-verdict.invariant added.1
