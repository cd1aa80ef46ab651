use Rattle.std.proofs.lemmas.Result.{on_ok_weaker}
use Rattle.mq_ask_lint.specs.Objects.{remark_said}
use Rattle.mq_print.specs.Lists.{lines_view}
use Rattle.mq_ask_lint.proofs.ObjectLemmas.{adds_one}
use Rattle.mq_ask_lint.proofs.remarks.add_remark.Goals as goal

pub returns-then-options : goal.returns-then-options
returns-then-options c =
    on_ok_weaker c.add_json.result
    (λ added. λ json. adds_one (lines_view c.args.list) (remark_said c.args.remark)
    c.as_str.result.now _ _ (rw (c.kind_name-kind.ensures, c.other_line-other.ensures) at added))
    c.add_json.ensures
