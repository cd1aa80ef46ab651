use Rattle.std.proofs.Common.{◌≡◌, map, take}
use Rattle.mq_acl.specs.Views.{row_views}
use Rattle.mq_rename.specs.Lists.{texts}
use Rattle.mq_regions.specs.Made.{denial}
use Rattle.mq_regions.proofs.list.denials.Given as goal

-- the filters so far have their rows
abbrev pub invariant-loop-filter : goal.invariant-loop-filter
invariant-loop-filter l =
    row_views l.rows.items ≡ map denial (texts (take l.filter-index l.taken))
