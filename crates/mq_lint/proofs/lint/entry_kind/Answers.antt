use Rattle.std.proofs.Common.{ap, ◌∙◌}
use Rattle.std.specs.List.{list_any}
use Rattle.mq_acl.specs.Views.{row_view}
use Rattle.mq_lint.specs.Remarks.{is_unmarked, kind_if}
use Rattle.mq_lint.specs.declared.remark.RemarkKind.TheVariants.{NoMark}
use Rattle.mq_lint.proofs.LintLemmas.{line_says, line_fails}
use Rattle.mq_lint.proofs.lint.entry_kind.Goals as goal

pub returns-in-Ok : goal.returns-in-Ok
returns-in-Ok c =
    c.kind_if.ensures
    ∙ ap (λ b. kind_if b NoMark) (c.has_unmarked.ensures
    ∙ ap (λ rows. list_any (λ row. is_unmarked (row_view row)) rows) c.deref.ensures.value)
    ∙ line_says c.args.rules c.args.line.now c.in-Ok.rows.items c.requires c.in-Ok.ensures.rows

pub returns-in_default : goal.returns-in_default
returns-in_default c = line_fails c.args.rules c.args.line.now c.in-Err.fault c.requires c.in_default.not-Memory
    c.in-Err.ensures.rows
