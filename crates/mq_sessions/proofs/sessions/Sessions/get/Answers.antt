use Rattle.std.proofs.Common.{◌≡◌, Some, None, refl, ◌∙◌, ap, List}
use Rattle.mq_world.specs.Sessions.{session_of}
use Rattle.mq_world.specs.World.{Session}
use Rattle.std.specs.Option.{option_map, option_copied}
use Rattle.mq_sessions.specs.Views.{session_at}
use Rattle.mq_sessions.proofs.SessionLemmas.{found-is}
use Rattle.mq_sessions.proofs.sessions.Sessions.get.Goals as goal

pub returns : goal.returns
returns c =
    (elim c.get.result as (λ o. option_map (λ session. session_at c.args.id.now session.now) o
    ≡ option_map (session_at c.args.id.now) (option_copied o))
    [ None ↦ refl | Some session ↦ refl ])
    ∙ ap (option_map (session_at c.args.id.now)) c.get.ensures.value
    ∙ found-is c.args.id.now c.self.inside.by_id.entries
    ∙ ap (λ (l : List Session). session_of l c.args.id.now) c.self.view_is
