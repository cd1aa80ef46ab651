use Rattle.std.proofs.Common.{◌∙◌, ◌&&◌, not, ap, refl, sym}
use Rattle.std.specs.List.{filter, list_any}
use Rattle.std.specs.Option.{option_copied}
use Rattle.mq_acl.specs.Access.{applies, covers, grants, is_deny}
use Rattle.mq_acl.specs.Views.{access_view, row_view, row_who}
use Rattle.mq_acl.proofs.AccessLemmas.{allowed_by_access}
use Rattle.mq_acl.proofs.check.rows_allow.Goals as goal

pub returns-then-not-is_denied : goal.returns-then-not-is_denied
returns-then-not-is_denied c = λ rows split.
    (λ i. not (sym c.if-not-is_denied.true i) && c.is_granted.result)
    ∙ allowed_by_access c.args.client.now (option_copied c.args.user) c.args.name.now
    c.args.direction rows c.is_denied.result c.is_granted.result (c.is_denied.ensures _ split.denies)
    (c.is_granted.ensures _ split.grants)

pub returns-else-not-is_denied : goal.returns-else-not-is_denied
returns-else-not-is_denied c = λ rows split.
    let user = option_copied c.args.user in
    let granted = list_any (λ row. applies user (row_who row)
    && (grants c.args.direction (access_view row.access)
    && covers c.args.client.now user c.args.name.now (row_view row)))
    (filter (λ row. not (is_deny (access_view row.access))) rows) in
    ap not c.if-not-is_denied.false ∙ (λ i. not (sym c.if-not-is_denied.false i) && granted)
    ∙ allowed_by_access c.args.client.now user c.args.name.now c.args.direction rows
    c.is_denied.result granted (c.is_denied.ensures _ split.denies) refl
