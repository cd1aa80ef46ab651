use Rattle.std.proofs.Common.{◌∙◌, ap}
use Rattle.std.proofs.lemmas.Result.{IfOk-weaker}
use Rattle.mq_ask_plan.proofs.ObjectLemmas.{texts_same}
use Rattle.mq_print.specs.Lists.{lent_texts, list_view}
use Rattle.mq_ask_plan.proofs.text.renamed_text.Goals as goal

pub returns : goal.returns
returns c =
    let olds = ap lent_texts c.deref.ensures.value ∙ c.in_ok-old_lines.ensures in
    let news = ap lent_texts c.deref-2.ensures.value ∙ c.in_ok-new_lines.ensures in
    let plans = ap lent_texts c.deref-3.ensures.value ∙ c.in_ok-plan_lines.ensures in
    IfOk-weaker c.answer.result _ _
    (λ text shown. λ json. shown json ∙ texts_same (list_view c.args.lists.0)
    (list_view c.args.lists.1) (list_view c.args.plan) _ _ _ c.args.renamed.items olds news plans)
    c.answer.ensures
