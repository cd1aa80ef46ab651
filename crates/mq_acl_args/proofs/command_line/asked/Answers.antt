use Rattle.std.proofs.Common.{◌∙◌, ◌<◌, ap, subst, sym}
use Rattle.mq_acl_args.specs.CommandLine.{CanNotBeAsked, asked_by, files_of, question_view}
use Rattle.mq_acl_args.specs.Files.{input_count}
use Rattle.mq_acl_args.proofs.command_line.asked.Goals as goal

pub returns-in_default-clause-err : goal.returns-in_default-clause-err
returns-in_default-clause-err c = λ words kinds same.
    let none = rw c.in_default.is at c.in_ok-request.ensures in
    c.no_question.ensures words kinds
    (subst CanNotBeAsked (sym (ap asked_by (sym same) ∙ none)) tt)

pub returns-then-input_count-gt1-clause-err : goal.returns-then-input_count-gt1-clause-err
returns-then-input_count-gt1-clause-err c = λ words kinds same.
    let is = rw c.in-Some.is at c.in_ok-request.ensures in
    let twice : 1 < input_count (files_of (question_view c.in-Some.request.question)) =
    rw c.input_count.ensures at c.if-input_count-gt1.true in
    c.usage_of.ensures words kinds
    (subst CanNotBeAsked (sym (ap asked_by (sym same) ∙ is.question)) twice)
