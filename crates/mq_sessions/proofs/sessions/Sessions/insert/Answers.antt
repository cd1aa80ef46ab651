use Rattle.std.proofs.Common.{◌≡◌, ◌+◌, ◌≤◌, ◌∙◌, List, length, map, option_map, sym, ap, subst}
use Rattle.std.proofs.Common.{rules, string_bytes, arith}
use Rattle.std.specs.Rc.{rc_str_bytes}
use Rattle.std.proofs.lemmas.List.{length-map}
use Rattle.mq_world.specs.Lists.{with_row}
use Rattle.mq_world.specs.World.{Session, session_cmp}
use Rattle.mq_world.specs.Sessions.{new_session}
use Rattle.mq_sessions.specs.Ends.{KeepIds, KeepsId, end_of, views_of}
use Rattle.mq_sessions.specs.Views.{session_at, session_in, sessions_of}
use Rattle.mq_sessions.proofs.CountLemmas.{count-put}
use Rattle.mq_sessions.proofs.EntryLemmas.{ids-put, length-put}
use Rattle.mq_sessions.proofs.IndexLemmas.{kept-put}
use Rattle.mq_sessions.proofs.SessionLemmas.{put-is}
use Rattle.mq_sessions.proofs.sessions.Sessions.insert.Goals as goal

pub sweep-requires-clause-kept : goal.sweep-requires-clause-kept
sweep-requires-clause-kept c =
    let es = c.self.inside.by_id.entries in
    let session = c.new-session.result in
    let after = c.insert.new.self.entries in
    let long : length (views_of es) ≡ length es = length-map es session_in in
    let count : length (views_of after) ≡ length after = length-map after session_in in
    let most : length after ≤ length es + 1 =
    subst (λ l. length l ≤ length es + 1) (sym c.in_ok-older.ensures.entries)
    (length-put c.args.id session es) in
    kept-put c.reserve_ends.new.index (session_at (rc_str_bytes c.args.id) session)
    (views_of es) (views_of after)
    (ap (map session_in) c.in_ok-older.ensures.entries
    ∙ put-is c.args.id session es c.in_ok-older.ensures.was_ordered)
    (sym (ap end_of c.new-session.ensures.shown))
    (omega (arith, long, count, most)) (
      omega (arith, long, c.in_ok-reserve_ends.ensures.ok.0),
      omega (arith, long, c.in_ok-reserve_ends.ensures.ok.1),
    )
    c.reserve_ends.ensures.indexed.kept

pub sweep-requires-clause-count : goal.sweep-requires-clause-count
sweep-requires-clause-count c =
    count-put c.args.id c.new-session.result c.self.inside.by_id.entries _ _ _ _
    c.in_ok-older.ensures.was_ordered c.in_ok-older.ensures.entries
    c.in_ok-older.ensures.old c.was_ending.ensures
    (sym (ap end_of c.new-session.ensures.shown)) c.reserve_ends.ensures.indexed.count

pub invariant_of-self-2 : goal.invariant_of-self-2
invariant_of-self-2 c =
    let keeps : KeepsId (c.args.id, c.new-session.result) = search rules in (
      c.sweep.ensures,
      subst KeepIds (sym c.in_ok-older.ensures.entries)
          (ids-put c.args.id c.new-session.result c.self.inside.by_id.entries keeps
          c.self.invariant.1),
    )

pub returns-clause-ok : goal.returns-clause-ok
returns-clause-ok c =
    let id = rc_str_bytes c.args.id in
    ap (map session_in) c.in_ok-older.ensures.entries
    ∙ put-is c.args.id c.new-session.result c.self.inside.by_id.entries
    c.in_ok-older.ensures.was_ordered
    ∙ ap (λ (s : Session). with_row session_cmp (record s { id = id }) (sessions_of c.self.inside))
    c.new-session.ensures.shown
    ∙ ap (λ (ss : List Session). with_row session_cmp
    (new_session id (option_map string_bytes c.args.user) c.args.interval) ss) c.self.view_is
