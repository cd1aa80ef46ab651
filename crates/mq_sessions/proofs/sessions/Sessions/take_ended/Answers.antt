use Rattle.std.proofs.Common.{◌≡◌, true, false, not, List, length, map, sym, ap, subst}
use Rattle.std.proofs.Common.{◌∙◌, arith}
use Rattle.std.specs.Option.{option_map}
use Rattle.std.specs.List.{filter, list_any}
use Rattle.std.specs.Rc.{rc_str_bytes}
use Rattle.mq_world.specs.World.{Session, has_id}
use Rattle.mq_world.specs.Sessions.{has_ended, is_among}
use Rattle.mq_sessions.specs.Ends.{AreListed, KeepIds}
use Rattle.mq_sessions.specs.Views.{session_in, sessions_of}
use Rattle.mq_sessions.proofs.EntryLemmas.{ids-removed}
use Rattle.mq_sessions.proofs.SessionLemmas.{removed-is, sorted-is}
use Rattle.mq_world.proofs.TextKeys.{finds}
use Rattle.mq_world.proofs.ListLemmas.{length-filter-most}
use Rattle.mq_sessions.proofs.CountLemmas.{count-removed}
use Rattle.mq_sessions.proofs.TakenLemmas.{any-is, taken-ended, taken-listed, taken-only, taken-shorter}
use Rattle.mq_sessions.proofs.sessions.Sessions.take_ended.Goals as goal

pub returns-then-not-any_until-clause-none : goal.returns-then-not-any_until-clause-none
returns-then-not-any_until-clause-none c =
    sym (sym c.if-not-any_until.true
    ∙ any-is c.args.moment c.drop_stale_ends.new.ends.entries (sessions_of c.self.inside)
    c.drop_stale_ends.ensures.listed c.drop_stale_ends.ensures.first c.any_until.result
    c.any_until.ensures.all c.any_until.ensures.first
    ∙ ap (list_any (has_ended c.args.moment)) c.self.view_is)

pub sweep-requires-clause-kept : goal.sweep-requires-clause-kept
sweep-requires-clause-kept c =
    let before = c.self.invariant.0.kept in
    let sessions : List Session = sessions_of c.self.inside in
    let id = rc_str_bytes c.in_ok-client.client in
    let dues = c.drop_stale_ends.new.ends.entries in
    let rest = c.pop.new.self.entries in
    let is_first = ap (option_map (λ due. due.1)) c.in_ok-client.ensures.first in
    let less = taken-shorter id dues rest is_first c.pop.ensures.entries in
    let after = ap (map session_in) c.remove-removed.ensures.entries
    ∙ removed-is c.as_str.result.now c.self.inside.by_id.entries c.len-count.ensures.ordered
    ∙ ap (λ t. filter (λ s. not (has_id t s)) sessions) c.as_str.ensures.value in
    let count = ap length after in
    let fewer = length-filter-most (λ s. not (has_id id s)) sessions in
    record {
      listed = subst (AreListed rest) (sym after)
          (taken-listed id dues rest sessions is_first c.pop.ensures.entries
          c.drop_stale_ends.ensures.listed);
      empty = before.empty;
      fits = omega (arith, less, before.fits, c.drop_stale_ends.ensures.count);
      room = (
        omega (
          arith,
          count,
          fewer,
          before.room.0,
          c.pop.ensures.room,
          c.drop_stale_ends.ensures.room,
        ),
        omega (arith, count, fewer, before.room.1),
      );
    }

pub sweep-requires-clause-count : goal.sweep-requires-clause-count
sweep-requires-clause-count c =
    count-removed (finds c.as_str.result.now) c.self.inside.by_id.entries _ _ _ _
    c.remove-removed.ensures.entries c.remove-removed.ensures.value c.was_ending.ensures
    c.self.invariant.0.count

pub invariant_of-self-2 : goal.invariant_of-self-2
invariant_of-self-2 c = (
  c.sweep.ensures,
  subst KeepIds (sym c.remove-removed.ensures.entries)
      (ids-removed (finds c.as_str.result.now) c.self.inside.by_id.entries c.self.invariant.1),
)

pub returns-clause-taken : goal.returns-clause-taken
returns-clause-taken c =
    ap (map session_in) c.remove-removed.ensures.entries
    ∙ removed-is c.as_str.result.now c.self.inside.by_id.entries c.len-count.ensures.ordered
    ∙ ap (λ id. filter (λ s. not (has_id id s)) (sessions_of c.self.inside)) c.as_str.ensures.value
    ∙ ap (λ (ss : List Session). filter (λ s. not (has_id (rc_str_bytes c.in_ok-client.client) s))
    ss)
    c.self.view_is

pub returns-clause-ended : goal.returns-clause-ended
returns-clause-ended c =
    let id = rc_str_bytes c.in_ok-client.client in
    let moment = c.args.moment in
    subst (λ ss. is_among (filter (has_ended moment) ss) id ≡ true) c.self.view_is
    (taken-ended moment id c.drop_stale_ends.new.ends.entries (sessions_of c.self.inside)
    (ap (option_map (λ due. due.1)) c.in_ok-client.ensures.first) c.drop_stale_ends.ensures.first
    (sym c.any_until.ensures.first ∙ c.if-not-any_until.false))

pub returns-clause-only : goal.returns-clause-only
returns-clause-only c =
    let id = rc_str_bytes c.in_ok-client.client in
    let moment = c.args.moment in
    subst (λ (ss : List Session). is_among (filter (λ s. not (has_ended moment s)) ss) id ≡ false)
    c.self.view_is
    (taken-only moment id c.drop_stale_ends.new.ends.entries (sessions_of c.self.inside)
    (ap (option_map (λ due. due.1)) c.in_ok-client.ensures.first) c.drop_stale_ends.ensures.first
    (sym c.any_until.ensures.first ∙ c.if-not-any_until.false)
    (sorted-is c.self.inside.by_id.entries c.len-count.ensures.ordered))
