use Rattle.std.proofs.Common.{◌∙◌, ap, sym, false, List}
use Rattle.std.specs.Ordering.{is_eq}
use Rattle.std.specs.Option.{option_map, option_map_or, option_and_then}
use Rattle.mq_world.specs.Sessions.{is_present, is_connected, user_of}
use Rattle.mq_world.specs.World.{Session}
use Rattle.mq_sessions.specs.Views.{session_at}
use Rattle.mq_sessions.proofs.SessionLemmas.{found-is}
use Rattle.mq_world.proofs.TextKeys.{key-is}
use Rattle.mq_sessions.proofs.sessions.Sessions.connected.Goals as goal

pub returns-in-None-clause-connected : goal.returns-in-None-clause-connected
returns-in-None-clause-connected c =
    ap (λ s. option_map_or is_present s false)
    (ap (option_map (session_at c.args.id.now)) c.in-None.ensures.value
    ∙ found-is c.args.id.now c.self.inside.by_id.entries)
    ∙ ap (λ (l : List Session). is_connected l c.args.id.now) c.self.view_is

pub returns-then-is_present-clause-connected : goal.returns-then-is_present-clause-connected
returns-then-is_present-clause-connected c =
    sym c.if-is_present.true ∙ c.is_present.ensures
    ∙ ap (λ s. option_map_or is_present s false)
    (ap (option_map (session_at c.args.id.now)) c.in-Some.ensures.value
    ∙ found-is c.args.id.now c.self.inside.by_id.entries)
    ∙ ap (λ (l : List Session). is_connected l c.args.id.now) c.self.view_is

pub returns-then-is_present-clause-same : goal.returns-then-is_present-clause-same
returns-then-is_present-clause-same c =
    key-is c.args.id.now c.in-Some.key.now (ap is_eq c.in-Some.ensures.same_key)

pub returns-else-is_present-clause-connected : goal.returns-else-is_present-clause-connected
returns-else-is_present-clause-connected c =
    sym c.if-is_present.false ∙ c.is_present.ensures
    ∙ ap (λ s. option_map_or is_present s false)
    (ap (option_map (session_at c.args.id.now)) c.in-Some.ensures.value
    ∙ found-is c.args.id.now c.self.inside.by_id.entries)
    ∙ ap (λ (l : List Session). is_connected l c.args.id.now) c.self.view_is

pub returns-then-is_present-clause-user : goal.returns-then-is_present-clause-user
returns-then-is_present-clause-user c =
    c.as_deref.ensures.value
    ∙ ap (option_and_then (λ (s : Session). s.user))
    (ap (option_map (session_at c.args.id.now)) c.in-Some.ensures.value
    ∙ found-is c.args.id.now c.self.inside.by_id.entries)
    ∙ ap (λ (l : List Session). user_of l c.args.id.now) c.self.view_is
