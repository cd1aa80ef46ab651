use Rattle.std.proofs.Common.{◌∙◌, subst, sym}
use Rattle.std.proofs.lemmas.Result.{IfOk-from_err}
use Rattle.mq_who.specs.Faults.{IsWhoFault}
use Rattle.mq_ask.specs.Lists.{AreRows}
use Rattle.mq_ask_who.proofs.who.find_permissions.Goals as goal

pub returns-in-Ok-clause-ok : goal.returns-in-Ok-clause-ok
returns-in-Ok-clause-ok c =
    let wanted = c.in_ok-filter.ensures.ok in
    record {
      rows = c.in_ok-rows.rows.items;
      are_rows = c.in_ok-rows.ensures.ok;
      granted = rw (c.deref.ensures.value, wanted) at c.in-Ok.ensures.granted;
      refused = rw (c.deref.ensures.value, wanted) at c.in-Ok.ensures.refused;
    }

pub returns-in-Ok-clause-err : goal.returns-in-Ok-clause-err
returns-in-Ok-clause-err c = tt

pub returns-clause-ok : goal.returns-clause-ok
returns-clause-ok c = tt

pub returns-in_err-filter-clause-ok : goal.returns-in_err-filter-clause-ok
returns-in_err-filter-clause-ok c = IfOk-from_err c.from_residual.result _ c.from_residual.ensures.0

pub returns-in_err-rows-clause-ok : goal.returns-in_err-rows-clause-ok
returns-in_err-rows-clause-ok c =
    IfOk-from_err c.from_residual-in_err-rows.result _ c.from_residual-in_err-rows.ensures.0

pub who_failure-requires : goal.who_failure-requires
who_failure-requires c =
    subst (AreRows c.args.rules c.args.list.text.now) (sym c.deref-in-Err.ensures.value)
    c.in_ok-rows.ensures.ok

pub returns-clause-err : goal.returns-clause-err
returns-clause-err c =
    c.who_failure.ensures c.args.steps
    (subst (λ rows. IsWhoFault c.args.rules rows c.args.wanted.now c.args.steps c.in-Err.fault)
    (c.deref.ensures.value ∙ sym c.deref-in-Err.ensures.value)
    (subst (λ wanted. IsWhoFault c.args.rules c.deref.result.now wanted c.args.steps c.in-Err.fault)
    c.in_ok-filter.ensures.ok c.in-Err.ensures.fault))
