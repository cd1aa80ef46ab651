use Rattle.std.proofs.Common.{take}
use Rattle.mq_regions.specs.Made.{IsMade}
use Rattle.mq_regions.proofs.list.made_rows.Given as goal

-- what is made of the rows so far
abbrev pub invariant-loop-row : goal.invariant-loop-row
invariant-loop-row l =
    IsMade l.asked.side l.asked.kind.now l.asked.client.now (take l.row-index l.rows) l.made.items
