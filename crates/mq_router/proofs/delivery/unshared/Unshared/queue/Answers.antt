use Rattle.std.proofs.Common.{arith}
use Rattle.std.proofs.lemmas.List.{append-nil, map_push}
use Rattle.mq_router.proofs.delivery.unshared.Unshared.queue.Goals as goal

pub returns-in_ok-push-in-Some-clause-queued : goal.returns-in_ok-push-in-Some-clause-queued
returns-in_ok-push-in-Some-clause-queued c = grind (arith, map_push)

pub returns-in-None-clause-queued : goal.returns-in-None-clause-queued
returns-in-None-clause-queued c = grind (arith, append-nil)
