use Rattle.std.proofs.Common.{rules}
use Rattle.mq_ask_lint.specs.Objects.{remark_said}
use Rattle.mq_print.specs.Lists.{lines_view}
use Rattle.mq_ask_lint.proofs.ObjectLemmas.{adds_more}
use Rattle.mq_ask_lint.proofs.remarks.add_all.Goals as goal

pub loop-remark-preserved : goal.loop-remark-preserved
loop-remark-preserved c = λ json. adds_more (lines_view c.args.list) remark_said c.args.remarks.now
    c.loop-remark.remark-index _ _ _ _ c.loop-remark-test.true (search rules) (c.loop-remark.invariant json)
    (c.in_ok-add_remark.ensures json)
