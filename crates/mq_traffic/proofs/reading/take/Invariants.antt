use Rattle.std.proofs.Common.{length}
use Rattle.mq_traffic.proofs.reading.take.Given as goal

-- each line leaves fewer bytes
abbrev pub decreases-lines : goal.decreases-lines
decreases-lines l = length l.rest
