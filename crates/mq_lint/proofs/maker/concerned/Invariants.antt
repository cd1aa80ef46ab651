use Rattle.std.proofs.Common.{All, take, [], ◌∷◌}
use Rattle.mq_acl.specs.Views.{row_view}
use Rattle.mq_witness.specs.declared.topics.Topics.TheVariants.{Open}
use Rattle.mq_lint.specs.Cases.{FindsNone, granted_in}
use Rattle.mq_lint.proofs.maker.concerned.Given as goal

-- it concerns nothing that clients of the first classes have
abbrev pub invariant-loop-clients : goal.invariant-loop-clients
invariant-loop-clients l = All (λ c. FindsNone (Open (granted_in (row_view l.row).access)) l.lint.asked
    c (row_view l.row ∷ []) []) (take l.clients-index l.clients-items)
