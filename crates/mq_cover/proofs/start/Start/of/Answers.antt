use Rattle.std.proofs.Common.{ap, sym}
use Rattle.mq_cover.specs.Names.{start_of}
use Rattle.mq_cover.proofs.start.Start.of.Goals as goal

pub returns-then-dollar : goal.returns-then-dollar
returns-then-dollar c = sym (ap start_of c.if-dollar.true)

pub returns-else-dollar : goal.returns-else-dollar
returns-else-dollar c = sym (ap start_of c.if-dollar.false)
