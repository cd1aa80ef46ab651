use Rattle.std.proofs.Common.{subst}
use Rattle.std.proofs.lemmas.Result.{IfOk-weaker}
use Rattle.mq_unify.specs.Rows.{lent_rows}
use Rattle.mq_shapes.specs.Covered.{AreEnough}
use Rattle.mq_shapes.specs.Ruled.{is_kept}
use Rattle.mq_shapes.proofs.KeptLemmas.{left_are}
use Rattle.mq_shapes.proofs.ruled.Ruled.rest.Goals as goal

pub returns : goal.returns
returns c =
    let self = c.args.self.now in
    IfOk-weaker c.enough.result _ _ (λ rows are.
    subst (λ kept. AreEnough (lent_rows c.args.must.now) kept (lent_rows rows.items))
    (left_are (is_kept self.start c.args.clients) self.cover.now c.deref.result.now
    c.in_ok-rows.rows.items c.deref.ensures.value c.in_ok-rows.ensures) are) c.enough.ensures
