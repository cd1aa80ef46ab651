-- Sessions without what waits in them.
use Rattle.std.specs.Prelude.{List, [], map}
use Rattle.mq_world.specs.World.{Session}

-- the sessions without the copies that wait in them, which take no part here
abbrev pub unqueued : List Session → List Session
unqueued sessions = map (λ (session : Session). record session { waiting = [] }) sessions
