use Rattle.mq_through.proofs.LoopLemmas.{ArePartsTo}
use Rattle.mq_through.proofs.parts.parts.Given as goal

-- the regions of the rules so far
abbrev pub invariant-loop-place : goal.invariant-loop-place
invariant-loop-place l = ArePartsTo l.plan l.place l.parts.items
