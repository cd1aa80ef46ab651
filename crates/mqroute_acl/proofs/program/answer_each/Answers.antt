use Rattle.std.proofs.Common.{◌≡◌, ◌∷◌, [], true, ap, subst, sym}
use Rattle.std.proofs.lemmas.Result.{IfOk-weaker}
use Rattle.mq_acl_args.specs.Files.{is_input}
use Rattle.mqroute_acl.specs.Files.{IsTextOf}
use Rattle.mqroute_acl.proofs.FilesLemmas.{counts_first, first_is_none, text_behind}
use Rattle.mqroute_acl.proofs.program.answer_each.Goals as goal

pub returns-clause-ok : goal.returns-clause-ok
returns-clause-ok g c =
    let known = g.I.Read.remaining in
    let first = known c.args.input.now in
    let list = c.args.asked.file.now in
    let questions = c.args.asked.questions.now in
    let same : is_input questions ≡ true → known c.text_of.new.input ≡ first = λ e.
    ap known (c.text_of.ensures.kept (first_is_none list (questions ∷ []) c.requires
    (counts_first questions [] e))) in
    IfOk-weaker c.show_each.result _ _ (λ outcome is. (
      c.as_str.result.now,
      c.as_str-2.result.now,
      subst (IsTextOf first list) (sym c.as_str.ensures.value) c.in_ok-text.ensures.ok,
      text_behind first (known c.text_of.new.input) questions c.as_str-2.result.now same
          (subst (IsTextOf (known c.text_of.new.input) questions) (sym c.as_str-2.ensures.value)
          c.in_ok-questions_text.ensures.ok),
      is,
    )) c.show_each.ensures.ok
