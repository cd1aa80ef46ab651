use Rattle.std.proofs.Common.{ap, arith}
use Rattle.mq_tree.specs.Trails.{trail_length}
use Rattle.mq_tree.proofs.tree.steps.Walk.tick.Goals as goal

pub returns : goal.returns
returns c = omega (arith, ap trail_length c.replace-before.ensures.value, c.self.view_is)
