use Rattle.std.proofs.Common.{◌∙◌, ap, refl, rules, sym}
use Rattle.std.proofs.lemmas.Result.{on_ok_weaker}
use Rattle.mq_print.specs.Lists.{lent_texts, list_view}
use Rattle.mq_ask_lint.proofs.ObjectLemmas.{adds_in, refused_all, refused_more, refused_nothing}
use Rattle.mq_ask_lint.proofs.remarks.add_refused.Goals as goal

pub returns-then-is_empty : goal.returns-then-is_empty
returns-then-is_empty c = λ json. refused_nothing (list_view c.args.list) c.args.odd.now
    c.args.refused.now _ _ (sym c.is_empty.ensures ∙ c.if-is_empty.true) refl

pub loop-remark-preserved : goal.loop-remark-preserved
loop-remark-preserved c = λ json. refused_more _ c.args.odd.now c.args.refused.now
    c.loop-remark.remark-index _ _ _ _ c.loop-remark-test.true (search rules)
    (c.loop-remark.invariant json) (c.in_ok-add_refused_line.ensures json)

pub returns : goal.returns
returns c =
    let lines = ap lent_texts c.deref.ensures.value ∙ c.in_ok-lines.ensures in
    on_ok_weaker c.add_reload.result
    (λ whole. λ json. adds_in (list_view c.args.list) _ _ _ _ lines
    (refused_all _ c.args.odd.now c.args.refused.now c.loop-remark.remark-index _ _ _
    (sym c.is_empty.ensures ∙ c.if-is_empty.false) c.loop-remark-test.false
    (c.loop-remark.invariant json) (whole json _))) c.add_reload.ensures
