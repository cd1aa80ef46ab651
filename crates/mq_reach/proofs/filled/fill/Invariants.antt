use Rattle.std.proofs.Common.{◌≡◌, ◌++◌, length}
use Rattle.mq_acl.specs.Filled.{filled}
use Rattle.mq_reach.proofs.filled.fill.Given as goal

-- what is left is still to be put in
abbrev pub invariant-loop-piece : goal.invariant-loop-piece
invariant-loop-piece l = filled l.fn.names.client.now l.fn.names.user.now l.fn.text
    ≡ l.bytes.items ++ filled l.fn.names.client.now l.fn.names.user.now l.rest

abbrev pub decreases-loop-piece : goal.decreases-loop-piece
decreases-loop-piece l = length l.rest
