use Rattle.std.proofs.Common.{◌∙◌, ◌||◌, ap, sym}
use Rattle.std.specs.List.{list_any}
use Rattle.std.specs.Option.{option_copied}
use Rattle.mq_acl.specs.Access.{covers}
use Rattle.mq_acl.specs.ByOwner.{own_items}
use Rattle.mq_acl.specs.Views.{row_view, row_who}
use Rattle.mq_acl.specs.declared.row.Row.{Row}
use Rattle.mq_acl.proofs.ByOwnerLemmas.{any_by_owner}
use Rattle.mq_acl.proofs.check.is_denied.Goals as goal

pub returns-then-any_covers : goal.returns-then-any_covers
returns-then-any_covers c = λ rows grouped.
    let user = option_copied c.args.user in
    let test : Row → _ = (λ row. covers c.args.client.now user c.args.name.now (row_view row)) in
    let first = c.any_covers.ensures ∙ ap (list_any test) c.everyone.ensures in
    c.if-any_covers.true ∙ (λ i. (sym c.if-any_covers.true ∙ first) i
    || list_any test (own_items user c.args.denies.now))
    ∙ any_by_owner row_who test user rows c.args.denies.now grouped

pub returns-else-any_covers : goal.returns-else-any_covers
returns-else-any_covers c = λ rows grouped.
    let user = option_copied c.args.user in
    let test : Row → _ = (λ row. covers c.args.client.now user c.args.name.now (row_view row)) in
    let first = c.any_covers.ensures ∙ ap (list_any test) c.everyone.ensures in
    c.any_covers-else-any_covers.ensures ∙ ap (list_any test) c.own.ensures
    ∙ (λ i. (sym c.if-any_covers.false ∙ first) i
    || list_any test (own_items user c.args.denies.now))
    ∙ any_by_owner row_who test user rows c.args.denies.now grouped
