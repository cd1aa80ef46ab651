use Rattle.std.proofs.Common.{take}
use Rattle.mq_through.specs.Made.{DecideAlike}
use Rattle.mq_through.proofs.made.are_alike.Given as goal

-- the rows so far decide alike
abbrev pub invariant-loop-place : goal.invariant-loop-place
invariant-loop-place l = DecideAlike l.region (take l.place l.rows) (take l.place l.others)
