use Rattle.std.proofs.Common.{◌≡◌, ◌∙◌, ap, rules}
use Rattle.mq_acl.specs.Clients.{ask_client, asks_client}
use Rattle.mq_acl.specs.RowsByAccess.{IsSplit}
use Rattle.mq_acl.specs.Views.{row_views}
use Rattle.mq_acl.proofs.AccessLemmas.{any_viewed}
use Rattle.mq_acl.proofs.acl.Acl.of.Goals as goal

pub invariant_of-result : goal.invariant_of-result
invariant_of-result c =
    let given : c.deref.result.now ≡ c.of-order.result.value.items = search rules in
    let split : IsSplit c.of-order.result.value.items c.in_ok-by_access.by_access =
    search rules in (
      split,
      c.ask_client-asks_client.ensures
          ∙ any_viewed (asks_client c.args.rules) c.deref.result.now
          ∙ ap (λ rows. ask_client c.args.rules (row_views rows)) given,
    )
