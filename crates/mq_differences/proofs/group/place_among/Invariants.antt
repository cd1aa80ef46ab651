use Rattle.std.proofs.Common.{All, take}
use Rattle.mq_differences.specs.Groups.{LacksGroup}
use Rattle.mq_differences.proofs.group.place_among.Given as goal

-- none of those so far is a place of its group
abbrev pub invariant-loop-place : goal.invariant-loop-place
invariant-loop-place l = All (LacksGroup l.groups l.difference) (take l.place-index l.places)
