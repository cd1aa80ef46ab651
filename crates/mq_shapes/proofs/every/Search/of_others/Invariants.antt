use Rattle.std.proofs.Common.{ℕ, ◌<◌, ◌≤◌}
use Rattle.mq_shapes.specs.Every.{FindsNoneWith}
use Rattle.mq_unify.specs.Rows.{lent_rows}
use Rattle.mq_unify.specs.declared.shape.UserShape.TheVariants.{Levels}
use Rattle.mq_shapes.proofs.every.Search.of_others.Given as goal

-- with no user name of as many levels as were tried
abbrev pub invariant-loop-levels : goal.invariant-loop-levels
invariant-loop-levels l = (most : ℕ) → 0 < most → most ≤ l.levels
    → FindsNoneWith l.self.start (Levels most) l.self.users.now (lent_rows l.self.must.now)
    (lent_rows l.self.cover.now)
