use Rattle.std.proofs.Common.{◌≡◌, ◌++◌}
use Rattle.mq_unify.specs.Terms.{variables}
use Rattle.mq_unify.proofs.terms.add_variables.Given as goal

abbrev pub invariant-loop-place : goal.invariant-loop-place
invariant-loop-place l = l.terms.items ≡ l.fn.terms.items ++ variables l.first l.place
