use Rattle.std.proofs.Common.{◌≡◌, ◌+◌, ◌≤◌, ◌∙◌, ◌&&◌, [], List, None, Some, arith, ap, false}
use Rattle.std.proofs.Common.{is_some, length, map, not, rules, string_bytes, subst, sym}
use Rattle.std.specs.Map.{set_value}
use Rattle.std.specs.Option.{option_map, option_map_or}
use Rattle.std.specs.Rc.{rc_str_bytes}
use Rattle.std.proofs.Math.Bool.{and-false}
use Rattle.std.proofs.lemmas.List.{length-map}
use Rattle.std.proofs.lemmas.Map.Steps.{set_value_same}
use Rattle.mq_world.specs.Lists.{with_row}
use Rattle.mq_world.specs.Sessions.{new_session, outlives_connection, session_of}
use Rattle.mq_world.specs.World.{Session, session_cmp}
use Rattle.mq_world.proofs.ListLemmas.{on_err}
use Rattle.mq_world.proofs.TextKeys.{finds}
use Rattle.mq_sessions.specs.Ends.{AreIndexed, KeepIds, KeepsId, end_of}
use Rattle.mq_sessions.specs.Ends.{views_of}
use Rattle.mq_sessions.specs.Views.{session_at, session_in, sessions_of}
use Rattle.mq_sessions.proofs.CountLemmas.{count-back}
use Rattle.mq_sessions.proofs.EntryLemmas.{entries-put, ids-put, length-put}
use Rattle.mq_sessions.proofs.IndexLemmas.{kept-put}
use Rattle.mq_sessions.proofs.ReachedLemmas.{reached-found}
use Rattle.mq_sessions.proofs.ResumeLemmas.{resumed-if, resumed-none}
use Rattle.mq_sessions.proofs.SessionLemmas.{looked-up, put-is}
use Rattle.mq_sessions.proofs.sessions.Sessions.start.Goals as goal

pub restart-requires : goal.restart-requires
restart-requires c =
    let id = rc_str_bytes c.args.id in
    let found : Some (session_at id c.in-Some.session.now) ≡ session_of c.args.self.now id =
    looked-up c.as_str.result.now id (Some c.in-Some.session.now) c.self.inside.by_id.entries
    c.args.self.now c.in-Some.ensures.value c.as_str.ensures.value c.self.view_is in
    reached-found c.args.clock.moment id (session_at id c.in-Some.session.now) c.args.self.now
    found c.requires

-- ## Room for the copies is refused

pub invariant_of-self-in_err-copies : goal.invariant_of-self-in_err-copies
invariant_of-self-in_err-copies c =
    let es = c.self.inside.by_id.entries in
    let id = c.as_str.result.now in
    let same = (c.get_mut.follows.holds c.restart.new.session).0
    ∙ ap (set_value (finds id) es) c.in_err-copies.ensures.err
    ∙ set_value_same (finds id) es c.in-Some.session.now (sym c.in-Some.ensures.value) in (
      subst (λ l. AreIndexed c.reserve_ends.new.index (map session_in l)) (sym same)
          c.reserve_ends.ensures.indexed,
      subst KeepIds (sym same) c.self.invariant.1,
    )

pub returns-in_err-copies-clause-err : goal.returns-in_err-copies-clause-err
returns-in_err-copies-clause-err c =
    let es = c.self.inside.by_id.entries in
    let id = c.as_str.result.now in
    let same = (c.get_mut.follows.holds c.restart.new.session).0
    ∙ ap (set_value (finds id) es) c.in_err-copies.ensures.err
    ∙ set_value_same (finds id) es c.in-Some.session.now (sym c.in-Some.ensures.value) in
    on_err c.from_residual-in_err-copies.result (ap (map session_in) same ∙ c.self.view_is)

-- ## The session takes the place of the older one

pub sweep-requires-clause-kept : goal.sweep-requires-clause-kept
sweep-requires-clause-kept c =
    let es = c.self.inside.by_id.entries in
    let session = c.restart.new.session in
    let after = (c.get_mut.follows.lender session).entries in
    let is = entries-put c.as_str.result.now c.args.id c.in-Some.session.now session es _
    c.as_str.ensures.value (c.get_mut.follows.holds session).0 c.in-Some.ensures.value
    c.in-Some.ensures.ordered in
    let long : length (views_of es) ≡ length es = length-map es session_in in
    let count : length (views_of after) ≡ length after = length-map after session_in in
    let most : length after ≤ length es + 1 =
    subst (λ l. length l ≤ length es + 1) (sym is) (length-put c.args.id session es) in
    kept-put c.reserve_ends.new.index (session_at (rc_str_bytes c.args.id) session)
    (views_of es) (views_of after)
    (ap (map session_in) is ∙ put-is c.args.id session es c.in-Some.ensures.ordered)
    (sym (ap end_of c.in_ok-copies.ensures.shown))
    (omega (arith, long, count, most)) (
      omega (arith, long, c.in_ok-reserve_ends.ensures.ok.0),
      omega (arith, long, c.in_ok-reserve_ends.ensures.ok.1),
    )
    c.reserve_ends.ensures.indexed.kept

pub sweep-requires-clause-count : goal.sweep-requires-clause-count
sweep-requires-clause-count c =
    let session = c.restart.new.session in
    count-back (finds c.as_str.result.now) c.in-Some.session.now session
    c.self.inside.by_id.entries _ _ _ (c.get_mut.follows.holds session).0
    c.in-Some.ensures.value (c.is_some-ended.ensures ∙ ap is_some c.end.ensures)
    (sym (ap end_of c.in_ok-copies.ensures.shown)) c.reserve_ends.ensures.indexed.count

pub invariant_of-self-in-Some : goal.invariant_of-self-in-Some
invariant_of-self-in-Some c =
    let es = c.self.inside.by_id.entries in
    let session = c.restart.new.session in
    let is = entries-put c.as_str.result.now c.args.id c.in-Some.session.now session es _
    c.as_str.ensures.value (c.get_mut.follows.holds session).0 c.in-Some.ensures.value
    c.in-Some.ensures.ordered in
    let keeps : KeepsId (c.args.id, session) = search rules in (
      c.sweep.ensures,
      subst KeepIds (sym is) (ids-put c.args.id session es keeps c.self.invariant.1),
    )

pub returns-in-Some-clause-resumed : goal.returns-in-Some-clause-resumed
returns-in-Some-clause-resumed c =
    let id = rc_str_bytes c.args.id in
    let found : Some (session_at id c.in-Some.session.now) ≡ session_of c.args.self.now id =
    looked-up c.as_str.result.now id (Some c.in-Some.session.now) c.self.inside.by_id.entries
    c.args.self.now c.in-Some.ensures.value c.as_str.ensures.value c.self.view_is in
    let stays = ap (λ s. option_map_or outlives_connection s false) (sym found) in
    c.in_ok-copies.ensures.resumed
    ∙ resumed-if c.args.clock.moment c.args.self.now id c.args.clean _ _
    (ap (λ b. not c.args.clean && b) stays)
    (ap (λ s. option_map_or (λ (session : Session). session.waiting) s []) found)

pub returns-in-Some-clause-ok : goal.returns-in-Some-clause-ok
returns-in-Some-clause-ok c =
    let id = rc_str_bytes c.args.id in
    let es = c.self.inside.by_id.entries in
    let is = entries-put c.as_str.result.now c.args.id c.in-Some.session.now
    c.restart.new.session es _ c.as_str.ensures.value
    (c.get_mut.follows.holds c.restart.new.session).0 c.in-Some.ensures.value
    c.in-Some.ensures.ordered in
    ap (map session_in) is
    ∙ put-is c.args.id c.restart.new.session es c.in-Some.ensures.ordered
    ∙ ap (λ (s : Session). with_row session_cmp (record s { id = id }) (sessions_of c.self.inside))
    c.in_ok-copies.ensures.shown
    ∙ ap (λ (ss : List Session). with_row session_cmp
    (new_session id (option_map string_bytes c.args.user) c.args.interval) ss) c.self.view_is

-- ## There was none

pub returns-clause-resumed : goal.returns-clause-resumed
returns-clause-resumed c =
    let id = rc_str_bytes c.args.id in
    let none : None ≡ session_of c.args.self.now id =
    looked-up c.as_str.result.now id None c.self.inside.by_id.entries c.args.self.now
    c.in_default.ensures.value c.as_str.ensures.value c.self.view_is in
    resumed-none c.args.clock.moment c.args.self.now id c.args.clean
    (ap (λ s. not c.args.clean && option_map_or outlives_connection s false) (sym none)
    ∙ and-false (not c.args.clean))
