use Rattle.std.proofs.Common.{◌≡◌, ◌++◌, string_bytes}
use Rattle.mq_acl.specs.Filled.{filled}
use Rattle.mq_shapes.specs.Filled.{left_filled, length_left}
use Rattle.mq_shapes.proofs.filled.filled_text.Given as goal

-- what is made so far, and what the rest makes, is all of it
abbrev pub invariant-loop-rest : goal.invariant-loop-rest
invariant-loop-rest l =
    string_bytes l.made ++ left_filled l.names.client.now l.names.user.now l.rest
    ≡ filled l.names.client.now l.names.user.now l.text

abbrev pub decreases-loop-rest : goal.decreases-loop-rest
decreases-loop-rest l = length_left l.rest
