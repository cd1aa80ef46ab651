use Rattle.std.proofs.Common.{ap, ◌∙◌}
use Rattle.std.proofs.lemmas.Result.{on_ok_weaker}
use Rattle.mq_lint.specs.Blanks.{is_indented_comment, is_tabbed}
use Rattle.mq_lint.specs.Hidden.{is_obscure}
use Rattle.mq_lint.specs.Remarks.{is_odd_by, kind_if}
use Rattle.mq_lint.specs.declared.remark.RemarkKind.TheVariants.{Hidden, IndentedComment, Tab}
use Rattle.mq_lint.proofs.LintLemmas.{line_added}
use Rattle.mq_lint.proofs.lint.add_line.Goals as goal

pub returns : goal.returns
returns c = on_ok_weaker c.add-4.result (λ fourth.
    line_added c.args.rules c.args.number c.args.line.now c.args.remarks.now.items
    c.add.new.remarks.items c.add-2.new.remarks.items c.add-3.new.remarks.items
    c.add-4.new.remarks.items
    c.in_ok-entry.entry c.kind_if-comment.result c.kind_if-tab.result c.kind_if-hidden.result
    c.in_ok-add.ensures c.in_ok-add-2.ensures c.in_ok-add-3.ensures fourth c.in_ok-entry.ensures
    (c.kind_if-comment.ensures ∙ ap (λ b. kind_if b IndentedComment)
    (c.is_odd_by.ensures ∙ ap (is_odd_by c.args.rules)
    (c.is_indented_comment.ensures ∙ ap is_indented_comment c.as_bytes-bytes.ensures.value)))
    (c.kind_if-tab.ensures ∙ ap (λ b. kind_if b Tab)
    (c.is_odd_by-2.ensures ∙ ap (is_odd_by c.args.rules)
    (c.is_tabbed.ensures ∙ ap is_tabbed c.as_bytes-bytes.ensures.value)))
    (c.kind_if-hidden.ensures ∙ ap (λ b. kind_if b Hidden)
    (c.is_obscure.ensures ∙ ap is_obscure c.as_bytes-bytes.ensures.value))) c.add-4.ensures
