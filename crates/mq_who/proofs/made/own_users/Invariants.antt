use Rattle.std.proofs.Common.{◌≡◌, ◌≤◌, ℕ, List, take}
use Rattle.std.specs.BTreeSet.{btree_set_len}
use Rattle.std.specs.List.{list_any}
use Rattle.mq_acl.specs.Views.{row_views}
use Rattle.mq_who.specs.Made.{has_user, is_own_of}
use Rattle.mq_who.proofs.made.own_users.Given as goal

-- the users of the rows so far are there, and no more than rows
abbrev pub invariant-loop-row : goal.invariant-loop-row
invariant-loop-row l = ((name : List ℕ) → has_user l.users name
    ≡ list_any (λ r. is_own_of l.allows name r.who) (row_views (take l.row-index l.rows)))
    × (btree_set_len l.users ≤ l.row-index)
