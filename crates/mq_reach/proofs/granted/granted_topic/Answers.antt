use Rattle.std.proofs.Common.{◌∷◌, [], All, Bor, subst}
use Rattle.std.specs.Option.{option_copied}
use Rattle.std.proofs.lemmas.List.{take_all}
use Rattle.std.proofs.lemmas.List.Elements.{All-contains, All-map, All-more}
use Rattle.mq_acl.specs.Rows.{AclRow}
use Rattle.mq_acl.specs.Views.{row_view}
use Rattle.mq_acl.specs.declared.row.Row.{Row}
use Rattle.mq_witness.specs.Rows.{lent_rows}
use Rattle.mq_witness.specs.Topics.{FindsNoTopic, IsTopic}
use Rattle.mq_witness.proofs.TryLemmas.{none_at, some_at}
use Rattle.mq_reach.proofs.FilledLemmas.{lent-at}
use Rattle.mq_reach.proofs.ReachLemmas.{none-passes, one-passes}
use Rattle.mq_reach.proofs.granted.granted_topic.Goals as goal

pub loop-grant-preserved : goal.loop-grant-preserved
loop-grant-preserved c =
    let client = c.args.client.now in
    let user = option_copied c.args.user in
    let row = row_view c.args.row.now in
    let denying = lent_rows c.args.denying.now in
    let P : Bor Row → Type 0 = λ grant. FindsNoTopic c.args.rules client user (row ∷ row_view grant.now ∷ [])
    denying in
    All-more P c.args.granting.now c.loop-grant.grant-index c.grant-item.result
    c.loop-grant-test.true c.loop-grant.invariant
    (subst P c.grant-item.is
    (none_at c.in_ok-topic.field-0 (FindsNoTopic c.args.rules client user
    (row ∷ row_view c.grant-item.result.now ∷ []) denying) c.in_default.is
    c.in_ok-topic.ensures.none))

pub returns-clause-none : goal.returns-clause-none
returns-clause-none c =
    let client = c.args.client.now in
    let user = option_copied c.args.user in
    let row = row_view c.args.row.now in
    let denying = lent_rows c.args.denying.now in
    let P : AclRow → Type 0 = λ grant. FindsNoTopic c.args.rules client user (row ∷ grant ∷ []) denying in
    let Q : Bor Row → Type 0 = λ grant. P (row_view grant.now) in
    none-passes c.args.rules client user row denying (lent_rows c.args.granting.now)
    (λ grant has. All-contains P (lent_rows c.args.granting.now) grant
    (All-map P (λ (g : Bor Row). row_view g.now) c.args.granting.now
    (subst (All Q) (take_all c.loop-grant.grant-index c.args.granting.now
    c.loop-grant-test.false) c.loop-grant.invariant)) has)

pub returns-in-Some-clause-some : goal.returns-in-Some-clause-some
returns-in-Some-clause-some c =
    let client = c.args.client.now in
    let user = option_copied c.args.user in
    let row = row_view c.args.row.now in
    let denying = lent_rows c.args.denying.now in
    let grant = c.grant-item.result in
    one-passes c.args.rules client user row denying (lent_rows c.args.granting.now) (row_view grant.now)
    c.in-Some.topic
    (lent-at c.args.granting.now c.loop-grant.grant-index grant c.loop-grant-test.true
    c.grant-item.is)
    (some_at c.in_ok-topic.field-0 c.in-Some.topic
    (IsTopic c.args.rules client user (row ∷ row_view grant.now ∷ []) denying) c.in-Some.is
    c.in_ok-topic.ensures.some)
