use Rattle.std.proofs.Common.{◌∙◌, ◌||◌, ◌&&◌, ap, sym}
use Rattle.std.specs.List.{list_any}
use Rattle.std.specs.Option.{option_copied}
use Rattle.mq_acl.specs.Access.{covers, grants}
use Rattle.mq_acl.specs.ByOwner.{own_items}
use Rattle.mq_acl.specs.Views.{access_view, row_view, row_who}
use Rattle.mq_acl.specs.declared.row.Row.{Row}
use Rattle.mq_acl.proofs.ByOwnerLemmas.{any_by_owner}
use Rattle.mq_acl.proofs.check.is_granted.Goals as goal

pub returns-then-any_grants : goal.returns-then-any_grants
returns-then-any_grants c = λ rows grouped.
    let user = option_copied c.args.user in
    let test : Row → _ = (λ row. grants c.args.direction (access_view row.access)
    && covers c.args.client.now user c.args.name.now (row_view row)) in
    let first = c.any_grants.ensures ∙ ap (list_any test) c.everyone.ensures in
    c.if-any_grants.true ∙ (λ i. (sym c.if-any_grants.true ∙ first) i
    || list_any test (own_items user c.args.granting.now))
    ∙ any_by_owner row_who test user rows c.args.granting.now grouped

pub returns-else-any_grants : goal.returns-else-any_grants
returns-else-any_grants c = λ rows grouped.
    let user = option_copied c.args.user in
    let test : Row → _ = (λ row. grants c.args.direction (access_view row.access)
    && covers c.args.client.now user c.args.name.now (row_view row)) in
    let first = c.any_grants.ensures ∙ ap (list_any test) c.everyone.ensures in
    c.any_grants-else-any_grants.ensures ∙ ap (list_any test) c.own.ensures
    ∙ (λ i. (sym c.if-any_grants.false ∙ first) i
    || list_any test (own_items user c.args.granting.now))
    ∙ any_by_owner row_who test user rows c.args.granting.now grouped
