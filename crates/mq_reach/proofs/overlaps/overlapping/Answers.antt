use Rattle.std.proofs.Common.{◌∙◌, ◌||◌, ap, sym, subst, All, Contains}
use Rattle.std.specs.List.{list_any}
use Rattle.std.specs.Option.{option_copied}
use Rattle.std.proofs.lemmas.List.Elements.{All-nil}
use Rattle.mq_acl.specs.Access.{concerns}
use Rattle.mq_acl.specs.ByOwner.{everyones, own_items}
use Rattle.mq_acl.specs.Rows.{AclRow}
use Rattle.mq_witness.specs.Rows.{lent_rows}
use Rattle.mq_reach.proofs.OwnerLemmas.{everyones-are, own-are}
use Rattle.mq_reach.proofs.ReachLemmas.{all-grouped, any-grouped, swapped}
use Rattle.mq_reach.proofs.overlaps.overlapping.Goals as goal

pub returns-clause-concerns : goal.returns-clause-concerns
returns-clause-concerns c = λ rows grouped client name here.
    let user = option_copied c.args.user in
    let C : AclRow → _ = concerns client user name in
    let all = lent_rows (everyones c.args.by_owner.now) in
    let its = lent_rows (own_items user c.args.by_owner.now) in
    c.in_ok-add_overlapping-2.ensures.concerns client name user here
    ∙ (λ i. (c.in_ok-add_overlapping.ensures.concerns client name user here
    ∙ (λ j. list_any C (lent_rows (c.new-all.ensures.items j))
    || list_any C (lent_rows (c.everyone.ensures j)))) i
    || list_any C (lent_rows (c.own.ensures i)))
    ∙ swapped (list_any C all) (list_any C its)
    ∙ any-grouped client user name rows all its (everyones-are grouped) (own-are grouped user)

pub returns-clause-among : goal.returns-clause-among
returns-clause-among c = λ rows grouped.
    let user = option_copied c.args.user in
    c.in_ok-add_overlapping-2.ensures.among rows
    (c.in_ok-add_overlapping.ensures.among rows
    (subst (λ l. All (Contains rows) (lent_rows l)) (sym c.new-all.ensures.items)
    (All-nil (Contains rows)))
    (subst (All (Contains rows)) (sym (ap lent_rows c.everyone.ensures ∙ everyones-are grouped))
    (all-grouped _ rows)))
    (subst (All (Contains rows)) (sym (ap lent_rows c.own.ensures ∙ own-are grouped user))
    (all-grouped _ rows))
