use Rattle.std.proofs.Common.{◌∙◌, ap}
use Rattle.std.proofs.lemmas.Result.{on_ok_weaker}
use Rattle.mq_print.specs.Lists.{lent_texts, list_view}
use Rattle.mq_ask_lint.proofs.ObjectLemmas.{adds_both, adds_in}
use Rattle.mq_ask_lint.proofs.remarks.add_remarks.Goals as goal

pub returns : goal.returns
returns c =
    let lines = ap lent_texts c.deref.ensures.value ∙ c.in_ok-lines.ensures in
    on_ok_weaker c.add_all-2.result
    (λ more. λ json. adds_in (list_view c.args.list) _ _ _ _ lines
    (adds_both _ _ _ _ _ _ (c.in_ok-add_all.ensures json) (more json))) c.add_all-2.ensures
