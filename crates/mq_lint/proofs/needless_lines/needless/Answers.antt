use Rattle.std.proofs.Common.{ap, sym, ◌∙◌}
use Rattle.mq_lint.specs.Needless.{remarks_of_kinds}
use Rattle.mq_lint.specs.NeedlessFault.{IsNeedlessFault}
use Rattle.mq_lint.proofs.BesideLemmas.{shown_of}
use Rattle.mq_lint.proofs.KindLemmas.{fault_of_stop, handed_on}
use Rattle.mq_lint.proofs.needless_lines.needless.Goals as goal

pub returns-clause-shown : goal.returns-clause-shown
returns-clause-shown c =
    let lint = c.in_ok-lint.lint in
    shown_of lint.asked.rules c.args.rules lint.rows.now c.args.rows.now c.in_ok-kinds.kinds.items _
    (sym lint.is_lint.rules_are ∙ c.in_ok-lint.ensures.rules) c.in_ok-lint.ensures.rows
    c.in_ok-kinds.ensures.are
    (c.in_ok-remarks_of_kinds.ensures ∙ ap (remarks_of_kinds c.args.rows.now) c.deref.ensures.value)

pub returns-in_err-kinds-clause-fault : goal.returns-in_err-kinds-clause-fault
returns-in_err-kinds-clause-fault c =
    handed_on c.from_residual-in_err-kinds.result c.in_err-kinds.field-0.0
    (IsNeedlessFault c.args.rules c.args.rows.now c.args.steps)
    c.from_residual-in_err-kinds.ensures.1
    (fault_of_stop c.args.rules c.args.rows.now c.args.steps c.in_ok-lint.lint.limited
    c.in_err-kinds.field-0.0 c.in_ok-lint.ensures.limited
    (rw (← c.in_ok-lint.ensures.rows) c.in_err-kinds.ensures.fault))
