use Rattle.std.proofs.Common.{Bor, List, ap, subst, sym}
use Rattle.mq_acl.specs.declared.row.Row.{Row}
use Rattle.mq_witness.specs.Rows.{lent_rows}
use Rattle.mq_lint.specs.Cases.{AreOut}
use Rattle.mq_lint.proofs.called.Called.none.Goals as goal

pub invariant_of-result : goal.invariant_of-result
invariant_of-result c = record {
  are_out = subst (λ l. AreOut c.args.rows.now l c.in_ok-out.out.items)
      (sym (ap (λ (l : List (Bor Row)). lent_rows l) c.new.ensures.items)) c.in_ok-out.ensures;
}
