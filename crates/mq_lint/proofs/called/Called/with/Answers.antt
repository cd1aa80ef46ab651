use Rattle.std.proofs.Common.{Bor, List, [], ◌∷◌, ◌++◌, ap, ◌∙◌}
use Rattle.mq_acl.specs.Views.{row_view}
use Rattle.mq_acl.specs.declared.row.Row.{Row}
use Rattle.mq_witness.specs.Rows.{lent_rows}
use Rattle.mq_lint.proofs.CalledLemmas.{lent_push, still_out}
use Rattle.mq_lint.proofs.called.Called.with.Goals as goal

pub invariant_of-result : goal.invariant_of-result
invariant_of-result c = record {
  are_out = still_out c.args.self.now.rows.now (row_view c.args.row.now)
      (lent_rows c.args.self.now.called.items) (lent_rows c.push.new.self.items)
      c.args.self.now.out.items c.deref.result.now c.in_ok-out.out.items
      (lent_push c.in_ok-called.called.items c.push.new.self.items c.args.row c.in_ok-push.ensures.items
      ∙ ap (λ (l : List (Bor Row)). lent_rows l ++ row_view c.args.row.now ∷ [])
      (c.in_ok-called.ensures.items ∙ c.deref-2.ensures.value))
      c.args.self.now.are_out c.deref.ensures.value c.in_ok-out.ensures;
}
