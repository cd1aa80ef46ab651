use Rattle.std.proofs.Common.{◌∙◌, rules, subst, sym}
use Rattle.std.proofs.lemmas.Result.{IfOk-from_err}
use Rattle.mq_differences.specs.Faults.{IsComparisonFault}
use Rattle.mq_ask.specs.Lists.{AreRows}
use Rattle.mq_ask_compare.proofs.CompareLemmas.{allow_same}
use Rattle.mq_ask_compare.proofs.compare.find_changes.Goals as goal

pub returns-in-Ok-clause-ok : goal.returns-in-Ok-clause-ok
returns-in-Ok-clause-ok c = record {
  old_rows = c.in_ok-old_rows.ensures.ok;
  new_rows = c.in_ok-new_rows.ensures.ok;
  every = search rules;
  real = search rules;
  once = search rules;
  marked = search rules;
  same = λ none. allow_same c.args.rules c.in_ok-old_rows.old_rows.items
      c.in_ok-new_rows.new_rows.items
      (rw (c.deref.ensures.value, c.deref-2.ensures.value) at c.in-Ok.ensures.same none);
}

pub comparison_failure-requires-clause-old : goal.comparison_failure-requires-clause-old
comparison_failure-requires-clause-old c =
    subst (AreRows c.args.rules c.args.old.text.now) (sym c.deref-in-Err.ensures.value)
    c.in_ok-old_rows.ensures.ok

pub comparison_failure-requires-clause-new : goal.comparison_failure-requires-clause-new
comparison_failure-requires-clause-new c =
    subst (AreRows c.args.rules c.args.new.text.now) (sym c.deref-in-Err-2.ensures.value)
    c.in_ok-new_rows.ensures.ok

pub returns-in-Ok-clause-err : goal.returns-in-Ok-clause-err
returns-in-Ok-clause-err c = tt

pub returns-clause-ok : goal.returns-clause-ok
returns-clause-ok c = tt

pub returns-in_err-old_rows-clause-ok : goal.returns-in_err-old_rows-clause-ok
returns-in_err-old_rows-clause-ok c =
    IfOk-from_err c.from_residual.result _ c.from_residual.ensures.0

pub returns-in_err-new_rows-clause-ok : goal.returns-in_err-new_rows-clause-ok
returns-in_err-new_rows-clause-ok c =
    IfOk-from_err c.from_residual-in_err-new_rows.result _ c.from_residual-in_err-new_rows.ensures.0

pub returns-clause-err : goal.returns-clause-err
returns-clause-err c =
    c.comparison_failure.ensures c.args.steps
    (subst (λ old. IsComparisonFault c.args.rules old c.deref-in-Err-2.result.now c.args.steps c.in-Err.fault)
    (c.deref.ensures.value ∙ sym c.deref-in-Err.ensures.value)
    (subst (λ new. IsComparisonFault c.args.rules c.deref.result.now new c.args.steps c.in-Err.fault)
    (c.deref-2.ensures.value ∙ sym c.deref-in-Err-2.ensures.value) c.in-Err.ensures.fault))
