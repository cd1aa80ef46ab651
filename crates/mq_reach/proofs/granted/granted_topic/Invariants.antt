use Rattle.std.proofs.Common.{◌∷◌, [], All, Bor, take}
use Rattle.std.specs.Option.{option_copied}
use Rattle.mq_acl.specs.Views.{row_view}
use Rattle.mq_acl.specs.declared.row.Row.{Row}
use Rattle.mq_witness.specs.Rows.{lent_rows}
use Rattle.mq_witness.specs.Topics.{FindsNoTopic}
use Rattle.mq_reach.proofs.granted.granted_topic.Given as goal

abbrev pub invariant-loop-grant : goal.invariant-loop-grant
invariant-loop-grant l =
    All (λ (grant : Bor Row). FindsNoTopic l.rules l.client (option_copied l.user)
    (row_view l.row ∷ row_view grant.now ∷ []) (lent_rows l.denying))
    (take l.grant-index l.granting)
