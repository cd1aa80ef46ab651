use Rattle.std.proofs.Common.{◌≡◌, ◌∙◌, sym, ap, subst, refl, inr, None, if◌then◌else◌, arith}
use Rattle.std.proofs.lemmas.Result.{err_from_is_err_and}
use Rattle.mq_world.specs.World.{Unsubscribe}
use Rattle.mq_world.specs.Refusals.{first_refusal, client_conditions}
use Rattle.mq_world.specs.Answers.{reason}
use Rattle.mq_world.specs.Views.{reply_of}
use Rattle.mq_world.specs.declared.refusal.Refusal.TheVariants.{TopicFilter}
use Rattle.mq_router.specs.router.Effects.{Does}
use Rattle.mq_router.specs.router.Views.{state_of}
use Rattle.mq_router.specs.StandsFor.{State}
use Rattle.mq_subscriptions.proofs.InTurn.{same-is}
use Rattle.mq_router.proofs.RouterLemmas.{refused-applied, unsubscribe-client, unsubscribe-filter}
use Rattle.mq_router.proofs.RouterLemmas.{unsubscribe-accepted, unsubscribe-does}
use Rattle.mq_router.proofs.EndedLemmas.{client-memory}
use Rattle.mq_router.proofs.router.Router.unsubscribe.Goals as goal

pub returns-in_err-check_client-clause-applied : goal.returns-in_err-check_client-clause-applied
returns-in_err-check_client-clause-applied c =
    grind (arith, err_from_is_err_and, refused-applied, unsubscribe-client)

pub returns-then-not-is_valid-clause-applied : goal.returns-then-not-is_valid-clause-applied
returns-then-not-is_valid-clause-applied c =
    refused-applied c.args.self.now _ _ TopicFilter c.args.self.now refl
    (unsubscribe-filter c.args.self.now c.args.client.now c.args.text.now TopicFilter
    c.in_ok-check_client.ensures.refused
    (inr (refl, sym c.is_valid.ensures ∙ c.if-not-is_valid.true)))

pub returns-clause-applied : goal.returns-clause-applied
returns-clause-applied c =
    let s : State = state_of c.self.inside in
    let id = c.args.client.now in
    let text = c.args.text.now in
    let subs = c.remove-existed.new.self in
    let new : State = record s { subscriptions = subs.rows; filter_keys = subs.keys } in
    let tested : None ≡ first_refusal (client_conditions s.sessions id) =
    c.in_ok-check_client.ensures.refused
    ∙ ap (λ (v : State). first_refusal (client_conditions v.sessions id)) (sym c.self.view_is)
    in
    subst (λ (v : State). Does v (Unsubscribe id text) (reply_of c.with_reason.result) new)
    c.self.view_is
    (unsubscribe-does s id text subs _ (record {
      accepted = unsubscribe-accepted s id text tested
          (sym c.is_valid.ensures ∙ c.if-not-is_valid.false);
      reply_is = c.with_reason.ensures ∙ ap reason (c.reason_to_leave.ensures
          ∙ ap (λ b. if b then 0 else 17) c.remove-existed.ensures.existed);
    }) (record {
      same = same-is _ _ c.remove-existed.ensures.rows;
      keys = λ old. c.remove-existed.ensures.keys;
    }))

pub returns-in_err-check_client-clause-no_memory : goal.returns-in_err-check_client-clause-no_memory
returns-in_err-check_client-clause-no_memory c = grind (arith, err_from_is_err_and, client-memory)
