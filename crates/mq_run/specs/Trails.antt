-- How long a trail is.
use Rattle.std.specs.Prelude.{ℕ, ◌+◌, Option, Some, None}
use Rattle.mq_run.specs.declared.devices.count.Trail.{Trail}
use Rattle.mq_run.specs.declared.devices.count.Trail.TheOpen.{Trail-F}
use Rattle.mq_run.specs.declared.devices.count.Trail.TheFolds.{fold-Trail}

abbrev pub one_more : Option ℕ → ℕ
one_more None = 0
one_more (Some n) = n + 1

abbrev pub trail_step : Trail-F ℕ → ℕ
trail_step f = one_more f.before.value

abbrev pub trail_length : Trail → ℕ
trail_length = fold-Trail ℕ trail_step
