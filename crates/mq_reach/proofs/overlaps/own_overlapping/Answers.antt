use Rattle.std.proofs.Common.{◌∙◌, ◌||◌, List, ap, sym, subst, All, Contains}
use Rattle.std.specs.List.{filter, list_any}
use Rattle.std.specs.Option.{option_copied}
use Rattle.std.proofs.lemmas.List.Elements.{All-contains_itself, All-nil}
use Rattle.mq_acl.specs.Access.{concerns}
use Rattle.mq_acl.specs.Rows.{AclRow}
use Rattle.mq_acl.specs.RowsByOwner.{is_own}
use Rattle.mq_witness.specs.Rows.{lent_rows}
use Rattle.mq_reach.proofs.OwnerLemmas.{own-are}
use Rattle.mq_reach.proofs.overlaps.own_overlapping.Goals as goal

pub returns-clause-concerns : goal.returns-clause-concerns
returns-clause-concerns c = λ rows grouped client name here.
    let user = option_copied c.args.user in
    let C : AclRow → _ = concerns client user name in
    c.in_ok-add_overlapping.ensures.concerns client name user here
    ∙ (λ i. list_any C (lent_rows (c.new-all.ensures.items i))
    || list_any C ((ap lent_rows c.own.ensures ∙ own-are grouped user) i))

pub returns-clause-among : goal.returns-clause-among
returns-clause-among c = λ rows grouped.
    let user = option_copied c.args.user in
    let mine : List AclRow = filter (λ r. is_own user r.who) rows in
    c.in_ok-add_overlapping.ensures.among mine
    (subst (λ l. All (Contains mine) (lent_rows l)) (sym c.new-all.ensures.items)
    (All-nil (Contains mine)))
    (subst (All (Contains mine)) (sym (ap lent_rows c.own.ensures ∙ own-are grouped user))
    (All-contains_itself mine))
