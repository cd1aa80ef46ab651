use Rattle.std.proofs.Common.{◌∙◌, ap, List}
use Rattle.std.specs.Option.{option_map, option_and_then}
use Rattle.mq_world.specs.Sessions.{user_of}
use Rattle.mq_world.specs.World.{Session}
use Rattle.mq_sessions.specs.Views.{session_at}
use Rattle.mq_sessions.proofs.SessionLemmas.{found-is}
use Rattle.mq_sessions.proofs.sessions.Sessions.user.Goals as goal

pub returns-in-None : goal.returns-in-None
returns-in-None c =
    ap (option_and_then (λ (s : Session). s.user))
    (ap (option_map (session_at c.args.id.now)) c.in-None.ensures.value
    ∙ found-is c.args.id.now c.self.inside.by_id.entries)
    ∙ ap (λ (l : List Session). user_of l c.args.id.now) c.self.view_is

pub returns-in-Some : goal.returns-in-Some
returns-in-Some c =
    c.as_deref.ensures.value
    ∙ ap (option_and_then (λ (s : Session). s.user))
    (ap (option_map (session_at c.args.id.now)) c.in-Some.ensures.value
    ∙ found-is c.args.id.now c.self.inside.by_id.entries)
    ∙ ap (λ (l : List Session). user_of l c.args.id.now) c.self.view_is
