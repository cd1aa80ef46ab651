use Rattle.std.proofs.Common.{take}
use Rattle.mq_through.specs.Needed.{IsNeededOf, asks_in}
use Rattle.mq_through.proofs.needed.needed_of.Given as goal

-- those of the rows so far
abbrev pub invariant-loop-row : goal.invariant-loop-row
invariant-loop-row l =
    IsNeededOf l.region (asks_in l.side l.region.kind) (take l.row-index l.rows) l.kept.items
