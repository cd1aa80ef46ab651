use Rattle.std.proofs.Common.{◌∙◌, ap, sym}
use Rattle.mq_acl.specs.AccessLists.{AccessList}
use Rattle.mq_acl.specs.Clients.{ask_client}
use Rattle.mq_acl.proofs.ClientLemmas.{same_for_all}
use Rattle.mq_acl.proofs.acl.Acl.asks_client.Goals as goal

pub returns-clause-same : goal.returns-clause-same
returns-clause-same c = λ none.
    same_for_all c.args.self.now
    (sym (ap (λ (l : AccessList). ask_client l.rules l.rows) c.self.view_is)
    ∙ sym c.self.invariant.1 ∙ none)
