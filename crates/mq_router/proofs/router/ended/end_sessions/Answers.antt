use Rattle.std.proofs.Common.{◌∙◌, not, List, length, sym, ap, subst, ◌<◌, arith}
use Rattle.std.specs.List.{filter}
use Rattle.std.specs.Rc.{rc_str_bytes}
use Rattle.mq_world.specs.World.{Session, has_id}
use Rattle.mq_world.specs.Sessions.{has_ended}
use Rattle.mq_router.specs.router.Effects.{lasts, without}
use Rattle.mq_router.proofs.EndedLemmas.{all-last, all-stay, fewer, last-more, stay-more}
use Rattle.mq_router.proofs.router.ended.end_sessions.Goals as goal

pub loop-id-preserved : goal.loop-id-preserved
loop-id-preserved c =
    let moment = c.args.moment in
    let id = rc_str_bytes c.in-Some.id in
    let sessions = c.loop-id.sessions in
    let rows = c.loop-id.subscriptions.rows in
    let left : List Session = filter (λ s. not (has_id id s)) sessions in
    record {
      sessions = ap (filter (λ s. not (has_ended moment s))) c.in-Some.ensures.taken
          ∙ stay-more moment id sessions c.in-Some.ensures.only
          ∙ c.loop-id.invariant.sessions;
      rows = ap (λ ss. filter (lasts moment ss) c.remove_client.new.self.rows)
          c.in-Some.ensures.taken
          ∙ ap (filter (lasts moment left)) (c.remove_client.ensures.rows
          ∙ ap (λ i. without i rows) c.as_str.ensures.value)
          ∙ last-more moment id sessions rows c.in-Some.ensures.ended
          ∙ c.loop-id.invariant.rows;
      keys = λ old. c.remove_client.ensures.keys;
    }

pub loop-id-smaller : goal.loop-id-smaller
loop-id-smaller c =
    subst (λ ss. length ss < length c.loop-id.sessions) (sym c.in-Some.ensures.taken)
    (fewer c.args.moment (rc_str_bytes c.in-Some.id) c.loop-id.sessions c.in-Some.ensures.ended)

pub returns-clause-sessions : goal.returns-clause-sessions
returns-clause-sessions c =
    c.in_default.ensures.same
    ∙ sym (all-stay c.args.moment c.loop-id.sessions c.in_default.ensures.none)
    ∙ c.loop-id.invariant.sessions

pub returns-clause-rows : goal.returns-clause-rows
returns-clause-rows c = grind (arith, all-last)
