use Rattle.mq_ask_plan.proofs.ObjectLemmas.{texts_more}
use Rattle.mq_print.specs.Lists.{lines_view}
use Rattle.mq_ask_plan.proofs.objects.json_lines.Goals as goal

pub loop-one-preserved : goal.loop-one-preserved
loop-one-preserved c =
    let compared = c.args.compared in
    texts_more (lines_view compared.old) (lines_view compared.new) (lines_view compared.plan)
    c.args.renamed.now c.loop-one.one-index c.one-item.result _ _ c.loop-one-test.true
    c.one-item.is c.loop-one.invariant c.in_ok-add_one.ensures
