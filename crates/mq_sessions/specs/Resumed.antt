-- What a client that connects gets of its session, if it resumes it.
use Rattle.std.specs.Prelude.{ℕ, Bool, List, Option, Some, None, if◌then◌else◌}
use Rattle.mq_world.specs.Lists.{Text}
use Rattle.mq_world.specs.World.{Session, Copy}
use Rattle.mq_world.specs.Sessions.{resumes}
use Rattle.mq_world.specs.Waiting.{resumed_copies}

abbrev pub copies_if_resumed : ℕ → List Session → Text → Bool → Option (List Copy)
copies_if_resumed now sessions id clean =
    if resumes sessions id clean then Some (resumed_copies now sessions id clean) else None
