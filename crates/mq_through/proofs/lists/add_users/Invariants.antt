use Rattle.std.proofs.Common.{◌≡◌, ℕ, List, ◌||◌, drop}
use Rattle.mq_acl.specs.Views.{row_views}
use Rattle.mq_witness.specs.Literals.{is_among}
use Rattle.mq_witness.specs.Rows.{is_user_of}
use Rattle.mq_through.proofs.lists.add_users.Given as goal

-- the rows that are left add what all of them do
abbrev pub invariant-loop-row : goal.invariant-loop-row
invariant-loop-row l = (user : List ℕ)
    → (is_among user l.users.items || is_user_of user (row_views (drop l.row-index l.rows)))
    ≡ (is_among user l.fn.users.items || is_user_of user (row_views l.rows))
