use Rattle.std.proofs.Common.{rules}
use Rattle.mq_world.proofs.ids.is_client_id.Goals as goal

pub returns-then-id-le-MAX_BYTES : goal.returns-then-id-le-MAX_BYTES
returns-then-id-le-MAX_BYTES c = search rules
