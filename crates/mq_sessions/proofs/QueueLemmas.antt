-- A session with copies behind those that wait, whoever's it is.
use Rattle.std.proofs.Common.{◌≡◌, ℕ, List, refl, true, false, if◌then◌else◌}
use Rattle.mq_world.specs.Lists.{Text}
use Rattle.mq_world.specs.World.{Session, Waiting}
use Rattle.mq_world.specs.Waiting.{has_place, with_waiting}
use Rattle.mq_sessions.specs.Queue.{queue_copies}

-- whether the id is set before or after the copies join makes no difference
pub queued-id : (limit : ℕ) (id : Text) (ws : List Waiting) (s : Session)
    → ◌≡◌ {A = Session} (record (queue_copies limit ws s) { id = id })
    (queue_copies limit ws (record s { id = id }))
queued-id limit id ws s =
    elim (has_place limit s) as (λ b. ◌≡◌ {A = Session}
    (record (if b then with_waiting s ws else s) { id = id })
    (if b then with_waiting (record s { id = id }) ws else record s { id = id }))
    [ true ↦ refl | false ↦ refl ]
