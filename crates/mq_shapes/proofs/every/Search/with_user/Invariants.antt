use Rattle.std.proofs.Common.{ℕ, ◌<◌, ◌≤◌}
use Rattle.mq_shapes.specs.Every.{with_levels}
use Rattle.mq_shapes.specs.Found.{FindsNone}
use Rattle.mq_unify.specs.Rows.{lent_rows}
use Rattle.mq_shapes.proofs.every.Search.with_user.Given as goal

-- with no id of as many levels as were tried
abbrev pub invariant-loop-levels : goal.invariant-loop-levels
invariant-loop-levels l = (count : ℕ) → 0 < count → count ≤ l.levels
    → FindsNone l.self.start (with_levels count l.user) l.self.users.now
    (lent_rows l.self.must.now) (lent_rows l.self.cover.now)
