-- How long a trail is.
use Rattle.std.specs.Prelude.{ℕ, ◌+◌, Option, Some, None}
use Rattle.mq_tree.specs.declared.tree.steps.Trail.{Trail}
use Rattle.mq_tree.specs.declared.tree.steps.Trail.TheOpen.{Trail-F}
use Rattle.mq_tree.specs.declared.tree.steps.Trail.TheFolds.{fold-Trail}

-- one more than the trail before, if there is one
abbrev pub one_more : Option ℕ → ℕ
one_more None = 0
one_more (Some n) = n + 1

abbrev pub trail_step : Trail-F ℕ → ℕ
trail_step f = one_more f.before.value

abbrev pub trail_length : Trail → ℕ
trail_length = fold-Trail ℕ trail_step
