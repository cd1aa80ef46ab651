use Rattle.std.proofs.Common.{◌≡◌, ℕ, ◌+◌, ◌∙◌, false, sym, ap, subst, map, length}
use Rattle.std.specs.Map.{set_value}
use Rattle.std.specs.Option.{option_map, option_map_or}
use Rattle.std.specs.Rc.{rc_str_bytes}
use Rattle.std.proofs.lemmas.Map.Steps.{set_value_same}
use Rattle.mq_world.specs.World.{Session, Away}
use Rattle.mq_world.specs.Sessions.{connected, is_present, session_end}
use Rattle.mq_sessions.specs.Ends.{AreListed, KeepIds, views_of}
use Rattle.mq_sessions.specs.Views.{kept_id, session_at, session_in}
use Rattle.mq_sessions.proofs.SessionLemmas.{edited-is, found-is}
use Rattle.mq_world.proofs.TextKeys.{finds}
use Rattle.mq_sessions.proofs.EntryLemmas.{absent-kept, connected-found, connected-left, ids-edited}
use Rattle.mq_sessions.proofs.CountLemmas.{ending-left}
use Rattle.mq_sessions.proofs.EntryLemmas.{ids-left, listed-left, present-kept}
use Rattle.mq_sessions.proofs.sessions.disconnection.disconnect.Goals as goal

abbrev away : ℕ → Session → Session
away moment s = record s { presence = Away (session_end moment s.interval) }

pub returns-in_default-clause-none : goal.returns-in_default-clause-none
returns-in_default-clause-none c =
    sym (ap (λ s. option_map_or is_present s false)
    (ap (option_map (session_at c.args.id.now)) c.in_default.ensures.value
    ∙ found-is c.args.id.now c.args.sessions.now.entries))

pub returns-in_default-disconnect-clause-ids : goal.returns-in_default-disconnect-clause-ids
returns-in_default-disconnect-clause-ids c =
    subst KeepIds (sym (c.get_mut.follows.holds c.disconnect.new.self).0)
    (ids-edited (finds c.args.id.now) c.in-Some.session.now c.disconnect.new.self
    c.args.sessions.now.entries (sym c.in-Some.ensures.value)
    (ap kept_id c.in_default-disconnect.ensures.away) c.requires)

pub returns-in_default-disconnect-clause-away : goal.returns-in_default-disconnect-clause-away
returns-in_default-disconnect-clause-away c =
    let es = c.args.sessions.now.entries in
    (c.get_mut.follows.holds c.disconnect.new.self).0
    ∙ ap (set_value (finds c.args.id.now) es) c.in_default-disconnect.ensures.away
    ∙ set_value_same (finds c.args.id.now) es c.in-Some.session.now (sym c.in-Some.ensures.value)

pub returns-in_default-disconnect-clause-none : goal.returns-in_default-disconnect-clause-none
returns-in_default-disconnect-clause-none c =
    connected-found c.args.id.now c.in-Some.session.now c.args.sessions.now.entries
    (sym c.in-Some.ensures.value)
    ∙ absent-kept c.in-Some.session.now c.in_default-disconnect.ensures.id

pub returns-clause-ids : goal.returns-clause-ids
returns-clause-ids c =
    subst KeepIds (sym (c.get_mut.follows.holds c.disconnect.new.self).0)
    (ids-left (finds c.args.id.now) c.in-Some.session.now c.disconnect.new.self
    c.args.sessions.now.entries (sym c.in-Some.ensures.value) c.in-Some-disconnect.ensures.gone
    c.requires)

pub returns-clause-some : goal.returns-clause-some
returns-clause-some c =
    connected-found c.args.id.now c.in-Some.session.now c.args.sessions.now.entries
    (sym c.in-Some.ensures.value)
    ∙ present-kept (rc_str_bytes c.in-Some-disconnect.id) c.in-Some.session.now
    c.in-Some-disconnect.ensures.id

pub returns-clause-left : goal.returns-clause-left
returns-clause-left c =
    let id = c.args.id.now in
    ap (map session_in) (c.get_mut.follows.holds c.disconnect.new.self).0
    ∙ edited-is id (away c.args.clock.moment) c.in-Some.session.now c.disconnect.new.self
    c.args.sessions.now.entries (sym c.in-Some.ensures.value)
    (ap (λ (s : Session). record s { id = id }) c.in-Some-disconnect.ensures.left)
    c.in-Some.ensures.ordered

pub returns-clause-fewer : goal.returns-clause-fewer
returns-clause-fewer c =
    let es = c.args.sessions.now.entries in
    subst (λ l. length (connected (views_of l)) + 1 ≡ length (connected (views_of es)))
    (sym (c.get_mut.follows.holds c.disconnect.new.self).0)
    (connected-left (finds c.args.id.now) c.in-Some.session.now c.disconnect.new.self es
    (sym c.in-Some.ensures.value)
    (present-kept (rc_str_bytes c.in-Some-disconnect.id) c.in-Some.session.now
    c.in-Some-disconnect.ensures.id)
    (ap is_present c.in-Some-disconnect.ensures.left))

pub returns-clause-ending : goal.returns-clause-ending
returns-clause-ending c =
    ending-left (finds c.args.id.now) c.in-Some.session.now c.disconnect.new.self
    c.args.sessions.now.entries _ (rc_str_bytes c.in-Some-disconnect.id) c.end.result
    (c.get_mut.follows.holds c.disconnect.new.self).0 c.in-Some.ensures.value
    c.in-Some-disconnect.ensures.id c.end.ensures

pub returns-clause-listed : goal.returns-clause-listed
returns-clause-listed c = λ dues listed there.
    subst (λ l. AreListed dues (views_of l)) (sym (c.get_mut.follows.holds c.disconnect.new.self).0)
    (listed-left (finds c.args.id.now) c.in-Some.session.now c.disconnect.new.self
    c.args.sessions.now.entries (rc_str_bytes c.in-Some-disconnect.id) c.end.result dues
    (record {
      found = sym c.in-Some.ensures.value;
      id_is = c.in-Some-disconnect.ensures.id;
      end_is = c.end.ensures;
    }) c.requires listed there)
