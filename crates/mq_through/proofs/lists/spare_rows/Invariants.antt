use Rattle.std.proofs.Common.{◌≡◌, map, take}
use Rattle.mq_acl.specs.Views.{row_views}
use Rattle.mq_rename.specs.Lists.{texts}
use Rattle.mq_through.specs.Made.{spare_row}
use Rattle.mq_through.proofs.lists.spare_rows.Given as goal

-- the user names so far have their rows
abbrev pub invariant-loop-user : goal.invariant-loop-user
invariant-loop-user l =
    row_views l.rows.items ≡ map (spare_row l.filter) (texts (take l.user-index l.users))
