use Rattle.std.proofs.Common.{◌∙◌, ◌||◌, ap, sym}
use Rattle.std.specs.List.{list_any}
use Rattle.mq_acl.specs.Access.{is_deny}
use Rattle.mq_acl.specs.ByOwner.{everyones}
use Rattle.mq_acl.specs.Clients.{asks_own_about}
use Rattle.mq_acl.specs.Views.{access_view, row_view, row_who}
use Rattle.mq_acl.specs.declared.row.Row.{Row}
use Rattle.mq_acl.proofs.ByOwnerLemmas.{any_for_all}
use Rattle.mq_acl.proofs.clients.rows_ask_about.Goals as goal

pub returns-then-any_asks_about : goal.returns-then-any_asks_about
returns-then-any_asks_about c = λ rows split.
    let test : Row → _ = (λ row. asks_own_about c.args.name.now (row_view row)) in
    let first = c.any_asks_about.ensures ∙ ap (list_any test) c.everyone.ensures in
    c.if-any_asks_about.true ∙ (λ i. (sym c.if-any_asks_about.true ∙ first) i
    || list_any test (everyones c.args.by_access.now.grants))
    ∙ any_for_all row_who test (λ row. is_deny (access_view row.access)) rows
    c.args.by_access.now.denies c.args.by_access.now.grants split.denies split.grants

pub returns-else-any_asks_about : goal.returns-else-any_asks_about
returns-else-any_asks_about c = λ rows split.
    let test : Row → _ = (λ row. asks_own_about c.args.name.now (row_view row)) in
    let first = c.any_asks_about.ensures ∙ ap (list_any test) c.everyone.ensures in
    c.any_asks_about-else-any_asks_about.ensures
    ∙ ap (list_any test) c.everyone-else-any_asks_about.ensures
    ∙ (λ i. (sym c.if-any_asks_about.false ∙ first) i
    || list_any test (everyones c.args.by_access.now.grants))
    ∙ any_for_all row_who test (λ row. is_deny (access_view row.access)) rows
    c.args.by_access.now.denies c.args.by_access.now.grants split.denies split.grants
