use Rattle.std.proofs.Common.{◌≡◌, length}
use Rattle.mq_lint.specs.Hidden.{has_hidden}
use Rattle.mq_lint.proofs.hidden.has_hidden.Given as goal

-- what is passed has none
abbrev pub invariant-loop-first : goal.invariant-loop-first
invariant-loop-first l = has_hidden l.left ≡ has_hidden l.text

abbrev pub decreases-loop-first : goal.decreases-loop-first
decreases-loop-first l = length l.left
