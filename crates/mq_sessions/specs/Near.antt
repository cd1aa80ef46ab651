-- Deadlines of waiting copies that can be reached from the moment by an expiry interval.
use Rattle.std.specs.Prelude.{ℕ, ◌+◌, ◌^◌, ◌<◌, List, IfSome}
use Rattle.std.specs.List.{AllByRecursion}
use Rattle.mq_world.specs.World.{Session, Waiting}

abbrev pub IsReached : ℕ → Waiting → Type 0
IsReached moment waiting = IfSome waiting.deadline (λ deadline. deadline < moment + 2 ^ 32)

abbrev pub AreReached : ℕ → List Waiting → Type 0
AreReached moment waiting = AllByRecursion (IsReached moment) waiting

-- of all sessions
abbrev pub AllReached : ℕ → List Session → Type 0
AllReached moment sessions = AllByRecursion (λ session. AreReached moment session.waiting) sessions
