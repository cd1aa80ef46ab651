use Rattle.std.proofs.Common.{◌≡◌, ◌∙◌, sym, ap, subst, map, false, arith}
use Rattle.std.specs.Option.{option_map, option_copied}
use Rattle.mq_world.specs.World.{Connect}
use Rattle.mq_world.specs.Sessions.{resumes}
use Rattle.mq_world.specs.Views.{copy_of, reply_of}
use Rattle.mq_router.specs.router.Views.{state_of}
use Rattle.mq_router.specs.StandsFor.{State}
use Rattle.mq_router.specs.router.Effects.{Does}
use Rattle.mq_world.specs.declared.answer.Outcome.TheVariants.{Reason}
use Rattle.mq_subscriptions.proofs.InTurn.{same-is}
use Rattle.mq_router.proofs.RouterLemmas.{connect-client, connect-user, connect-accepted}
use Rattle.mq_router.proofs.RouterLemmas.{connect-does, connect_rows}
use Rattle.mq_sessions.proofs.ReachedLemmas.{reached-with_row}
use Rattle.mq_sessions.proofs.ResumeLemmas.{resumes-none, resumes-some, resumed-empty}
use Rattle.mq_router.proofs.router.Router.connect.Goals as goal

pub returns-then-not-is_client_id-clause-applied : goal.returns-then-not-is_client_id-clause-applied
returns-then-not-is_client_id-clause-applied c =
    connect-client c.args.self.now c.args.client.now _ _ _
    (sym c.is_client_id.ensures ∙ c.if-not-is_client_id.true)

pub returns-then-not-is_user_name-clause-applied : goal.returns-then-not-is_user_name-clause-applied
returns-then-not-is_user_name-clause-applied c = grind (arith, connect-user)

pub invariant_of-self-in-Some-1 : goal.invariant_of-self-in-Some-1
invariant_of-self-in-Some-1 c = grind (arith, reached-with_row)

pub invariant_of-self-in_default : goal.invariant_of-self-in_default
invariant_of-self-in_default c = grind (arith, reached-with_row)

pub returns-in_default-clause-applied : goal.returns-in_default-clause-applied
returns-in_default-clause-applied c =
    let s : State = state_of c.self.inside in
    let id = c.args.client.now in
    let user = option_copied c.args.user in
    let interval = c.args.session_expiry in
    let subs = c.remove_client.new.self in
    let new : State = record s {
      sessions = c.start_session.new.sessions;
      subscriptions = subs.rows;
      filter_keys =
          subs.keys;
    } in
    let ends : resumes s.sessions id c.args.clean ≡ false =
    resumes-none s.moment s.sessions id c.args.clean
    (ap (option_map (λ list. map copy_of list.items)) (sym c.in_default.is)
    ∙ c.in_ok-resumed.ensures.resumed) in
    subst (λ (v : State). Does v (Connect id user c.args.clean interval)
    (reply_of c.with_reason.result) new) c.self.view_is
    (connect-does s id user c.args.clean interval c.start_session.new.sessions subs _ (record {
      accepted = connect-accepted s id user c.args.clean interval
          (sym c.is_client_id.ensures ∙ c.if-not-is_client_id.false)
          (sym c.is_user_name.ensures ∙ c.if-not-is_user_name.false);
      reply_is = c.with_reason.ensures ∙ ap (λ l. record { copies = l; outcome = Reason 0 })
          (resumed-empty s.moment s.sessions id c.args.clean ends);
    }) c.in_ok-resumed.ensures.ok (record {
      same = same-is _ _ (c.remove_client.ensures.rows ∙ ap (connect_rows s id) (sym ends));
      keys = λ old. c.remove_client.ensures.keys;
    }))

pub returns-clause-applied : goal.returns-clause-applied
returns-clause-applied c =
    grind (arith, resumes-some, connect-does, connect-accepted, same-is, connect_rows)
