use Rattle.std.proofs.Common.{take}
use Rattle.mq_shapes.specs.Filled.{text_levels}
use Rattle.mq_shapes.specs.Found.{AreLeft}
use Rattle.mq_shapes.proofs.found.whole.Given as goal

abbrev pub invariant-loop-text : goal.invariant-loop-text
invariant-loop-text l = AreLeft l.all.items (text_levels (take l.text-index l.texts))
