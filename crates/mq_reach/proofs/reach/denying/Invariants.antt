use Rattle.std.proofs.Common.{take}
use Rattle.std.specs.List.{filter}
use Rattle.mq_acl.specs.Access.{is_deny}
use Rattle.mq_acl.specs.Views.{row_views}
use Rattle.mq_reach.specs.ByOwner.{AreGrouped}
use Rattle.mq_reach.proofs.reach.denying.Given as goal

abbrev pub invariant-loop-row : goal.invariant-loop-row
invariant-loop-row l = AreGrouped (filter (λ row. is_deny row.access)
    (row_views (take l.row-index l.rows))) l.all
