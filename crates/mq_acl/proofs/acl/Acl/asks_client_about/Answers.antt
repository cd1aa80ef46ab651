use Rattle.std.proofs.Common.{◌∙◌, ap, sym}
use Rattle.mq_acl.specs.AccessLists.{AccessList}
use Rattle.mq_acl.specs.Clients.{ask_client, ask_client_about, asks_client_about}
use Rattle.mq_acl.specs.Views.{row_views}
use Rattle.mq_acl.specs.declared.rules.Rules.TheVariants.{Own}
use Rattle.mq_acl.proofs.AccessLemmas.{any_viewed}
use Rattle.mq_acl.proofs.ClientLemmas.{same_about, same_for_all}
use Rattle.mq_acl.proofs.acl.Acl.asks_client_about.Goals as goal

pub returns-in-Own-clause-value : goal.returns-in-Own-clause-value
returns-in-Own-clause-value c =
    let name = c.args.name.now in
    let rows = c.self.inside.order.value.items in
    c.rows_ask_about.ensures rows c.self.invariant.0 ∙ any_viewed (asks_client_about Own name) rows
    ∙ ap (λ rules. ask_client_about rules name (row_views rows)) (sym c.in-Own.is)
    ∙ ap (λ (l : AccessList). ask_client_about l.rules name l.rows) c.self.view_is

pub returns-in-Own-clause-same : goal.returns-in-Own-clause-same
returns-in-Own-clause-same c = λ none.
    same_about c.args.self.now c.args.name.now (sym (returns-in-Own-clause-value c) ∙ none)

pub returns-in-Mosquitto-clause-same : goal.returns-in-Mosquitto-clause-same
returns-in-Mosquitto-clause-same c = λ none a b user direction.
    same_for_all c.args.self.now
    (sym (ap (λ (l : AccessList). ask_client l.rules l.rows) c.self.view_is)
    ∙ sym c.self.invariant.1 ∙ none) a b user c.args.name.now direction
