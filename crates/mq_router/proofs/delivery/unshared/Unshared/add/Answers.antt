use Rattle.std.proofs.Common.{arith}
use Rattle.std.proofs.lemmas.List.{append-nil, map_push}
use Rattle.std.proofs.lemmas.Result.{on_ok_weaker}
use Rattle.mq_router.proofs.delivery.unshared.Unshared.add.Goals as goal

pub returns-in_ok-push-in-Sent-clause-copies : goal.returns-in_ok-push-in-Sent-clause-copies
returns-in_ok-push-in-Sent-clause-copies c = grind (arith, map_push)

pub returns-in_ok-push-in-Sent-clause-queued : goal.returns-in_ok-push-in-Sent-clause-queued
returns-in_ok-push-in-Sent-clause-queued c = grind (arith, append-nil)

pub returns-in_ok-copy-in-Queued-clause-copies : goal.returns-in_ok-copy-in-Queued-clause-copies
returns-in_ok-copy-in-Queued-clause-copies c = grind (arith, on_ok_weaker, append-nil)

pub returns-in_ok-copy-in-Queued-clause-queued : goal.returns-in_ok-copy-in-Queued-clause-queued
returns-in_ok-copy-in-Queued-clause-queued c = grind (arith, on_ok_weaker)

pub returns-in-Dropped-clause-copies : goal.returns-in-Dropped-clause-copies
returns-in-Dropped-clause-copies c = grind (arith, append-nil)

pub returns-in-Dropped-clause-queued : goal.returns-in-Dropped-clause-queued
returns-in-Dropped-clause-queued c = grind (arith, append-nil)
