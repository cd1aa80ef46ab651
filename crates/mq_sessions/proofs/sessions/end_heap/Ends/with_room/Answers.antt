use Rattle.std.proofs.Common.{rules}
use Rattle.mq_sessions.proofs.sessions.end_heap.Ends.with_room.Goals as goal

pub returns-clause-room : goal.returns-clause-room
returns-clause-room c = search rules
