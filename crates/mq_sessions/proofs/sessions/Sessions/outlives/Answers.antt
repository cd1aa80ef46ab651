use Rattle.std.proofs.Common.{◌∙◌, ap, false, List}
use Rattle.std.specs.Option.{option_map, option_map_or}
use Rattle.mq_world.specs.Sessions.{outlives, outlives_connection}
use Rattle.mq_world.specs.World.{Session}
use Rattle.mq_sessions.specs.Views.{session_at}
use Rattle.mq_sessions.proofs.SessionLemmas.{found-is}
use Rattle.mq_sessions.proofs.sessions.Sessions.outlives.Goals as goal

pub returns-in-None : goal.returns-in-None
returns-in-None c =
    ap (λ s. option_map_or (outlives_connection) s false)
    (ap (option_map (session_at c.args.id.now)) c.in-None.ensures.value
    ∙ found-is c.args.id.now c.self.inside.by_id.entries)
    ∙ ap (λ (l : List Session). outlives l c.args.id.now) c.self.view_is

pub returns-in-Some : goal.returns-in-Some
returns-in-Some c =
    c.outlives_connection.ensures
    ∙ ap (λ s. option_map_or (outlives_connection) s false)
    (ap (option_map (session_at c.args.id.now)) c.in-Some.ensures.value
    ∙ found-is c.args.id.now c.self.inside.by_id.entries)
    ∙ ap (λ (l : List Session). outlives l c.args.id.now) c.self.view_is
