use Rattle.std.proofs.Common.{◌∙◌, ◌+◌, take, sym, subst}
use Rattle.std.specs.List.{filter}
use Rattle.mq_acl.specs.Access.{grants}
use Rattle.mq_acl.specs.Rows.{AclRow}
use Rattle.mq_acl.specs.Views.{row_views}
use Rattle.mq_acl.specs.declared.access.Direction.TheVariants.{Reading}
use Rattle.mq_reach.specs.ByOwner.{AreGrouped}
use Rattle.mq_reach.proofs.OwnerLemmas.{grouped-more, grouped-same}
use Rattle.mq_reach.proofs.reach.granting.Goals.{then-grants+in_ok-add, else-grants}
use Rattle.mq_reach.proofs.reach.granting.Goals as goal

pub loop-row-preserved : goal.loop-row-preserved
loop-row-preserved c =
    let p : AclRow → _ = (λ row. grants Reading row.access) in
    let rows = c.args.rows.now in
    let i = c.loop-row.row-index in
    elim c.if-grants.branch [
      | then-grants+in_ok-add w ↦
          subst (AreGrouped (filter p (row_views (take (i + 1) rows)))) (sym w.all-is)
          (grouped-more p rows i _ _ _ w.in_ok-add.ensures c.loop-row-test.true c.row-item.is
          (sym c.grants.ensures ∙ w.if-grants.true) c.loop-row.invariant)
      | else-grants w ↦
          subst (AreGrouped (filter p (row_views (take (i + 1) rows)))) (sym w.all-is)
          (grouped-same p rows i c.row-item.result c.loop-row.all c.loop-row-test.true
          c.row-item.is (sym c.grants.ensures ∙ w.if-grants.false) c.loop-row.invariant)
    ]
