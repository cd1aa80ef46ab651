use Rattle.std.proofs.Common.{take}
use Rattle.std.specs.List.{filter}
use Rattle.mq_acl.specs.Access.{grants}
use Rattle.mq_acl.specs.Views.{row_views}
use Rattle.mq_acl.specs.declared.access.Direction.TheVariants.{Reading}
use Rattle.mq_reach.specs.ByOwner.{AreGrouped}
use Rattle.mq_reach.proofs.reach.granting.Given as goal

abbrev pub invariant-loop-row : goal.invariant-loop-row
invariant-loop-row l = AreGrouped (filter (λ row. grants Reading row.access)
    (row_views (take l.row-index l.rows))) l.all
