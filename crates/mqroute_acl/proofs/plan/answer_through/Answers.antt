use Rattle.std.proofs.Common.{◌≡◌, ◌∙◌, ◌≤◌, ◌∷◌, [], true, ap, arith, subst, sym}
use Rattle.std.proofs.lemmas.Result.{IfOk-weaker}
use Rattle.mq_acl_args.specs.Files.{input_count, is_input}
use Rattle.mqroute_acl.specs.Files.{IsTextOf}
use Rattle.mqroute_acl.proofs.FilesLemmas.{counts_behind, counts_first, first_is_none, text_behind}
use Rattle.mqroute_acl.proofs.plan.answer_through.Goals as goal

pub returns-clause-ok : goal.returns-clause-ok
returns-clause-ok g c =
    let known = g.I.Read.remaining in
    let first = known c.args.input.now in
    let old = c.args.asked.old.now in
    let new = c.args.asked.new.now in
    let plan = c.args.asked.plan.now in
    let fewer : input_count (new ∷ plan ∷ []) ≤ 1 =
    (let behind = counts_behind old (new ∷ plan ∷ []) in let once = c.requires in omega arith) in
    let new_same : is_input new ≡ true → known c.text_of.new.input ≡ first = λ e.
    ap known (c.text_of.ensures.kept (first_is_none old (new ∷ plan ∷ []) c.requires
    (counts_first new (plan ∷ []) e))) in
    let some : is_input plan ≡ true → 1 ≤ input_count (new ∷ plan ∷ []) = λ e.
    (let behind = counts_behind new (plan ∷ []) in let one = counts_first plan [] e in omega arith) in
    let plan_same : is_input plan ≡ true → known c.text_of-2.new.input ≡ first = λ e.
    ap known (c.text_of-2.ensures.kept (first_is_none new (plan ∷ []) fewer
    (counts_first plan [] e))
    ∙ c.text_of.ensures.kept (first_is_none old (new ∷ plan ∷ []) c.requires (some e))) in
    IfOk-weaker c.show_through.result _ _ (λ outcome is. (
      c.as_str.result.now,
      c.as_str-2.result.now,
      c.as_str-3.result.now,
      subst (IsTextOf first old) (sym c.as_str.ensures.value) c.in_ok-old_text.ensures.ok,
      text_behind first (known c.text_of.new.input) new c.as_str-2.result.now new_same
          (subst (IsTextOf (known c.text_of.new.input) new) (sym c.as_str-2.ensures.value)
          c.in_ok-new_text.ensures.ok),
      text_behind first (known c.text_of-2.new.input) plan c.as_str-3.result.now plan_same
          (subst (IsTextOf (known c.text_of-2.new.input) plan) (sym c.as_str-3.ensures.value)
          c.in_ok-plan_text.ensures.ok),
      is,
    )) c.show_through.ensures.ok
