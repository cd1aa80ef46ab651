use Rattle.std.proofs.lemmas.Result.{IfOk-from_err}
use Rattle.mq_ask_why.proofs.why.explain.Goals as goal

pub returns-clause-ok : goal.returns-clause-ok
returns-clause-ok c =
    let name = c.in_ok-name.ensures.ok in
    record {
      rows = c.in_ok-rows.rows.items;
      are_rows = c.in_ok-rows.ensures.ok;
      reading = rw (c.deref.ensures.value, name) at c.why.ensures.reason;
      writing = rw (c.deref-2.ensures.value, name) at c.why-2.ensures.reason;
      reading_grant = rw (c.deref.ensures.value, name) at c.why.ensures.grant;
      writing_grant = rw (c.deref-2.ensures.value, name) at c.why-2.ensures.grant;
      may_read = rw (c.deref.ensures.value, name) at c.why.ensures.allowed;
      may_write = rw (c.deref-2.ensures.value, name) at c.why-2.ensures.allowed;
    }

pub returns-in_err-name-clause-ok : goal.returns-in_err-name-clause-ok
returns-in_err-name-clause-ok c = IfOk-from_err c.from_residual.result _ c.from_residual.ensures.0

pub returns-in_err-rows-clause-ok : goal.returns-in_err-rows-clause-ok
returns-in_err-rows-clause-ok c =
    IfOk-from_err c.from_residual-in_err-rows.result _ c.from_residual-in_err-rows.ensures.0

pub returns-clause-err : goal.returns-clause-err
returns-clause-err c = tt
