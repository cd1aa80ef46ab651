use Rattle.std.proofs.Common.{◌≡◌, ◌∙◌, Option, ap, sym, subst, refl, rules, string_bytes}
use Rattle.std.specs.Option.{option_copied, option_map}
use Rattle.std.proofs.lemmas.Bool.{and_from, and_left, and_right}
use Rattle.std.proofs.lemmas.Result.{err_from_is_err_and}
use Rattle.mq_world.specs.Lists.{Text, with_row}
use Rattle.mq_world.specs.Refusals.{is_client_id, is_user_name}
use Rattle.mq_world.specs.Sessions.{new_session}
use Rattle.mq_world.specs.World.{session_cmp}
use Rattle.mq_reach.specs.Connects.{Connects}
use Rattle.mq_reach.specs.Faults.{IsFaultOpen}
use Rattle.mq_reach.proofs.ConnectLemmas.{connect-fails, connect-refused, connect-taken}
use Rattle.mq_reach.proofs.search.Search.connect.Goals as goal

pub returns-then-not-is_client_id-clause-ok : goal.returns-then-not-is_client_id-clause-ok
returns-then-not-is_client_id-clause-ok c =
    let user : Option Text = option_map string_bytes c.args.user in
    connect-refused c.args.list.now c.args.client.now user c.args.clean c.args.session_expiry
    c.args.self.now (and_left (is_client_id c.args.client.now) (is_user_name user)
    (sym c.is_client_id.ensures ∙ c.if-not-is_client_id.true))

pub returns-then-not-is_user_name-clause-ok : goal.returns-then-not-is_user_name-clause-ok
returns-then-not-is_user_name-clause-ok c =
    let user : Option Text = option_map string_bytes c.args.user in
    let same : option_copied c.as_deref.result ≡ user = search rules in
    connect-refused c.args.list.now c.args.client.now user c.args.clean c.args.session_expiry
    c.args.self.now (and_right (is_client_id c.args.client.now) (is_user_name user)
    (ap is_user_name (sym same) ∙ sym c.is_user_name.ensures ∙ c.if-not-is_user_name.true))

pub returns-in_err-take_over-clause-err : goal.returns-in_err-take_over-clause-err
returns-in_err-take_over-clause-err c =
    let user : Option Text = option_map string_bytes c.args.user in
    let same : option_copied c.as_deref.result ≡ user = search rules in
    let again : option_copied c.as_deref-2.result ≡ user = search rules in
    let fault = err_from_is_err_and c.from_residual.result c.from_residual.ensures.1 in
    let shown = c.in_err-take_over.ensures.err in
    rw (fault.1, fault.2) (connect-fails c.args.list.now c.args.client.now user c.args.clean
    c.args.session_expiry c.args.self.now c.in_err-take_over.field-0.0
    (and_from (is_client_id c.args.client.now) (is_user_name user)
    (sym c.is_client_id.ensures ∙ c.if-not-is_client_id.false)
    (ap is_user_name (sym same) ∙ sym c.is_user_name.ensures ∙ c.if-not-is_user_name.false))
    shown.0
    (subst (λ u. IsFaultOpen c.args.list.now c.args.client.now u c.args.self.now.tracked
    c.in_err-take_over.field-0.0) again shown.1))

pub returns-clause-ok : goal.returns-clause-ok
returns-clause-ok c =
    let user : Option Text = option_map string_bytes c.args.user in
    let same : option_copied c.as_deref.result ≡ user = search rules in
    let again : option_copied c.as_deref-2.result ≡ user = search rules in
    connect-taken c.args.list.now c.args.client.now user c.args.clean c.args.session_expiry
    c.args.self.now _
    (and_from (is_client_id c.args.client.now) (is_user_name user)
    (sym c.is_client_id.ensures ∙ c.if-not-is_client_id.false)
    (ap is_user_name (sym same) ∙ sym c.is_user_name.ensures ∙ c.if-not-is_user_name.false))
    (subst (λ u. Connects c.args.list.now c.args.client.now u c.args.clean
    c.args.self.now.sessions c.args.self.now.tracked c.take_over.new.tracked) again
    c.in_ok-take_over.ensures.ok)
    (c.in_ok-insert.ensures.ok ∙ ap (λ id. with_row session_cmp
    (new_session id user c.args.session_expiry) c.args.self.now.sessions) c.in_ok-id.ensures.ok)
    refl refl
