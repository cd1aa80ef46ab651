use Rattle.std.proofs.Common.{rules}
use Rattle.mq_cover.proofs.start.Start.fits.Goals as goal

pub returns-in-Slash : goal.returns-in-Slash
returns-in-Slash c = search rules
