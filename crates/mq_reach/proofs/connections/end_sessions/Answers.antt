use Rattle.std.proofs.Common.{◌∙◌, not, List, length, map, sym, ap, subst, ◌<◌}
use Rattle.std.specs.List.{filter}
use Rattle.std.specs.Rc.{rc_str_bytes}
use Rattle.mq_world.specs.World.{Session, has_id}
use Rattle.mq_world.specs.Sessions.{has_ended}
use Rattle.mq_reach.specs.Connects.{closed_ended}
use Rattle.mq_reach.specs.Tracked.{closed_all}
use Rattle.mq_reach.proofs.EndedLemmas.{all-stay, closed-more, fewer, none-closed, stay-more}
use Rattle.mq_reach.proofs.connections.end_sessions.Goals as goal

pub loop-client-preserved : goal.loop-client-preserved
loop-client-preserved c =
    let moment = c.args.moment in
    let id = rc_str_bytes c.in-Some.client in
    let sessions = c.loop-client.sessions in
    let tracked = c.loop-client.tracked in
    let left : List Session = filter (λ s. not (has_id id s)) sessions in
    record {
      sessions = ap (filter (λ s. not (has_ended moment s))) c.in-Some.ensures.taken
          ∙ stay-more moment id sessions c.in-Some.ensures.only
          ∙ c.loop-client.invariant.sessions;
      tracked = ap (λ ss. map (closed_ended moment ss) c.close_all.new.self)
          c.in-Some.ensures.taken
          ∙ ap (map (closed_ended moment left)) (c.close_all.ensures
          ∙ ap (λ i. map (closed_all i) tracked) c.as_str.ensures.value)
          ∙ closed-more moment id sessions tracked c.in-Some.ensures.ended
          ∙ c.loop-client.invariant.tracked;
    }

pub loop-client-smaller : goal.loop-client-smaller
loop-client-smaller c =
    subst (λ ss. length ss < length c.loop-client.sessions) (sym c.in-Some.ensures.taken)
    (fewer c.args.moment (rc_str_bytes c.in-Some.client) c.loop-client.sessions
    c.in-Some.ensures.ended)

pub returns-clause-sessions : goal.returns-clause-sessions
returns-clause-sessions c =
    c.in_default.ensures.same
    ∙ sym (all-stay c.args.moment c.loop-client.sessions c.in_default.ensures.none)
    ∙ c.loop-client.invariant.sessions

pub returns-clause-tracked : goal.returns-clause-tracked
returns-clause-tracked c =
    sym (none-closed c.args.moment c.loop-client.sessions c.loop-client.tracked
    c.in_default.ensures.none)
    ∙ c.loop-client.invariant.tracked
