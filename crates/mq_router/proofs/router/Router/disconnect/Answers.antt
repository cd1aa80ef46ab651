use Rattle.std.proofs.Common.{◌≡◌, ◌∙◌, sym, ap, subst, None, arith}
use Rattle.std.proofs.lemmas.Result.{err_from_is_err_and}
use Rattle.mq_world.specs.World.{Disconnect}
use Rattle.mq_world.specs.Refusals.{first_refusal, client_conditions}
use Rattle.mq_router.specs.router.Views.{state_of}
use Rattle.mq_router.specs.StandsFor.{State}
use Rattle.mq_router.specs.router.Effects.{Does}
use Rattle.mq_world.specs.Views.{reply_of}
use Rattle.mq_subscriptions.proofs.InTurn.{same-is}
use Rattle.mq_router.proofs.RouterLemmas.{refused-applied, disconnect-client, disconnect-leaves}
use Rattle.mq_router.proofs.RouterLemmas.{disconnect-accepted, disconnect-does}
use Rattle.mq_router.proofs.EndedLemmas.{client-memory, connected-tested}
use Rattle.mq_sessions.proofs.ReachedLemmas.{reached-left, reached-filter}
use Rattle.mq_router.proofs.router.Router.disconnect.Goals as goal

pub returns-in_err-check_client-clause-applied : goal.returns-in_err-check_client-clause-applied
returns-in_err-check_client-clause-applied c =
    grind (arith, err_from_is_err_and, refused-applied, disconnect-client)

pub invariant_of-self : goal.invariant_of-self
invariant_of-self c = grind (arith, connected-tested, reached-left)

pub invariant_of-self-2 : goal.invariant_of-self-2
invariant_of-self-2 c = grind (arith, reached-filter)

pub returns-then-outlives-clause-applied : goal.returns-then-outlives-clause-applied
returns-then-outlives-clause-applied c = grind (arith, disconnect-leaves, connected-tested)

pub returns-clause-applied : goal.returns-clause-applied
returns-clause-applied c =
    let s : State = state_of c.self.inside in
    let id = c.args.client.now in
    let subs = c.remove_client.new.self in
    let new : State = record s {
      sessions = c.remove.new.self;
      subscriptions = subs.rows;
      filter_keys = subs.keys;
    } in
    let tested : None ≡ first_refusal (client_conditions s.sessions id) =
    c.in_ok-check_client.ensures.refused
    ∙ ap (λ (v : State). first_refusal (client_conditions v.sessions id)) (sym c.self.view_is)
    in
    subst (λ (v : State). Does v (Disconnect id) (reply_of c.with_reason-2.result) new)
    c.self.view_is
    (disconnect-does s id c.remove.new.self subs _ (record {
      accepted = disconnect-accepted s id tested;
      reply_is = c.with_reason-2.ensures;
    }) (sym c.outlives.ensures ∙ c.if-outlives.false) c.remove.ensures (record {
      same = same-is _ _ c.remove_client.ensures.rows;
      keys = λ old. c.remove_client.ensures.keys;
    }))

pub returns-in_err-check_client-clause-no_memory : goal.returns-in_err-check_client-clause-no_memory
returns-in_err-check_client-clause-no_memory c = grind (arith, err_from_is_err_and, client-memory)
