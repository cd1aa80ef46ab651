use Rattle.std.proofs.Common.{◌≡◌, ℕ, List, ◌||◌, drop}
use Rattle.mq_acl.specs.Views.{row_views}
use Rattle.mq_witness.specs.Literals.{is_named}
use Rattle.mq_witness.specs.Rows.{is_user_of}
use Rattle.mq_witness.proofs.literals.Literals.add_users.Given as goal

-- the rows that are left add what all of them do
abbrev pub invariant-loop-row : goal.invariant-loop-row
invariant-loop-row l = (t : List ℕ)
    → (is_named t l.self || is_user_of t (row_views (drop l.row-index l.rows)))
    ≡ (is_named t l.fn.self || is_user_of t (row_views l.rows))
