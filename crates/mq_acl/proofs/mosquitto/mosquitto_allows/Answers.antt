use Rattle.std.proofs.Common.{◌∙◌, false, refl, sym}
use Rattle.std.specs.List.{filter}
use Rattle.std.specs.Option.{option_copied, option_or, unwrap_or}
use Rattle.mq_acl.specs.Mosquitto.{verdict}
use Rattle.mq_acl.specs.RowsByOwner.{is_everyones, is_own}
use Rattle.mq_acl.specs.Views.{row_views}
use Rattle.mq_acl.proofs.MosquittoLemmas.{allowed_in_turn, verdict_of}
use Rattle.mq_acl.proofs.mosquitto.mosquitto_allows.Goals as goal

pub returns-in-Some : goal.returns-in-Some
returns-in-Some c = λ rows split.
    let client = c.args.client.now in
    let name = c.args.name.now in
    let direction = c.args.direction in
    let user = option_copied c.known_user.result in
    let views = row_views rows in
    let everyone =
    verdict client user name direction (filter (λ row. is_everyones row.who) views) in
    (λ i. unwrap_or (option_or (sym c.in-Some.is i) everyone) false)
    ∙ allowed_in_turn client (option_copied c.args.user) user name direction views c.verdict.result
    everyone c.known_user.ensures
    (c.verdict.ensures ∙ verdict_of client user name direction (λ row. is_own user row.who) rows
    c.own.result.now c.own-2.result.now (c.own.ensures ∙ split.denies.own user)
    (c.own-2.ensures ∙ split.grants.own user)) refl

pub returns-in-None : goal.returns-in-None
returns-in-None c = λ rows split.
    let client = c.args.client.now in
    let name = c.args.name.now in
    let direction = c.args.direction in
    let user = option_copied c.known_user.result in
    let views = row_views rows in
    let everyone = c.verdict-in-None.result in
    c.unwrap_or.ensures ∙ (λ i. unwrap_or (option_or (sym c.in-None.is i) everyone) false)
    ∙ allowed_in_turn client (option_copied c.args.user) user name direction views c.verdict.result
    everyone c.known_user.ensures
    (c.verdict.ensures ∙ verdict_of client user name direction (λ row. is_own user row.who) rows
    c.own.result.now c.own-2.result.now (c.own.ensures ∙ split.denies.own user)
    (c.own-2.ensures ∙ split.grants.own user))
    (c.verdict-in-None.ensures ∙ verdict_of client user name direction
    (λ row. is_everyones row.who) rows c.everyone.result.now c.everyone-in-None.result.now
    (c.everyone.ensures ∙ split.denies.everyone) (c.everyone-in-None.ensures ∙ split.grants.everyone))
