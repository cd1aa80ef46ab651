use Rattle.std.proofs.Common.{All, take}
use Rattle.mq_acl.specs.Views.{row_view}
use Rattle.mq_lint.specs.Cases.{AddsNone}
use Rattle.mq_lint.proofs.maker.makes_needless.Given as goal

-- the row does nothing more for clients of the first classes
abbrev pub invariant-loop-clients : goal.invariant-loop-clients
invariant-loop-clients l = All (AddsNone l.lint.asked (row_view l.row) (row_view l.other))
    (take l.clients-index l.clients-items)
