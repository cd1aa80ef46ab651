use Rattle.std.proofs.Common.{ℕ, ◌+◌, ap, ◌∙◌}
use Rattle.mq_run.specs.Trails.{trail_step, trail_length}
use Rattle.mq_run.specs.declared.devices.count.Trail.TheFolds.{fold-roll-Trail}
use Rattle.mq_run.proofs.devices.count.Count.tick.Goals as goal

pub returns : goal.returns
returns c =
    fold-roll-Trail ℕ trail_step (record { before = c.of-2.result })
    ∙ rw (c.of-2.ensures) (ap (λ t. trail_length t + 1) c.replace.ensures.value
    ∙ ap (λ n. n + 1) c.self.view_is)
