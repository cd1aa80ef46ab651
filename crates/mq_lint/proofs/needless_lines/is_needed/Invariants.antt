use Rattle.std.proofs.Common.{All, take}
use Rattle.mq_acl.specs.Views.{row_view}
use Rattle.mq_lint.specs.Cases.{IsNeedlessTo}
use Rattle.mq_lint.specs.Left.{left_of}
use Rattle.mq_lint.proofs.needless_lines.is_needed.Given as goal

-- clients of the first classes don't need it
abbrev pub invariant-loop-clients : goal.invariant-loop-clients
invariant-loop-clients l = All (λ c. IsNeedlessTo l.lint.asked
    (left_of l.lint.asked l.called) c (row_view l.row))
    (take l.clients-index l.clients-items)
