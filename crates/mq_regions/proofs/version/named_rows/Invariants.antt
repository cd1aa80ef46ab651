use Rattle.std.proofs.Common.{take}
use Rattle.mq_rename.specs.Lists.{texts}
use Rattle.mq_regions.specs.Made.{IsGroup, covers_named}
use Rattle.mq_regions.proofs.version.named_rows.Given as goal

-- the rows of the texts so far
abbrev pub invariant-loop-text : goal.invariant-loop-text
invariant-loop-text l =
    IsGroup l.asked.side l.asked.kind.now l.row l.rows.items
    (covers_named l.asked.client.now l.filter l.row (texts (take l.text-index l.named)))
