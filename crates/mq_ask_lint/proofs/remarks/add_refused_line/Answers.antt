use Rattle.std.proofs.Common.{◌∙◌, refl, sym}
use Rattle.std.proofs.lemmas.Result.{on_ok_weaker}
use Rattle.mq_print.specs.Lists.{lines_view}
use Rattle.mq_ask_lint.proofs.ObjectLemmas.{refused_none, refused_one}
use Rattle.mq_ask_lint.proofs.remarks.add_refused_line.Goals as goal

pub returns-then-is_remarked : goal.returns-then-is_remarked
returns-then-is_remarked c = λ json. refused_none (lines_view c.args.list) c.args.odd.now c.args.remark _ _
    (sym c.is_remarked.ensures ∙ c.if-is_remarked.true) refl

pub returns-then-options : goal.returns-then-options
returns-then-options c =
    on_ok_weaker c.add_json.result
    (λ added. λ json. refused_one (lines_view c.args.list) c.args.odd.now c.args.remark
    c.as_str.result.now _ _ (sym c.is_remarked.ensures ∙ c.if-is_remarked.false) added)
    c.add_json.ensures
