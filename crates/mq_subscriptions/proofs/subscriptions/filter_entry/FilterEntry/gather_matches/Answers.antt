use Rattle.std.proofs.Common.{arith}
use Rattle.std.proofs.lemmas.Grind.{common_steps}
use Rattle.mq_subscriptions.specs.Views.{texts}
use Rattle.mq_world.specs.Views.{message_of}
use Rattle.mq_subscriptions.proofs.FoundLemmas.{matches-at}
use Rattle.mq_subscriptions.proofs.subscriptions.filter_entry.FilterEntry.gather_matches.Goals as goal

pub loop-client-init : goal.loop-client-init
loop-client-init c =
    let gives = c.into_iter-client-iterator.ensures.into_iter_gives in
    rw (← c.self.view_is, gives.0) (rw (matches-at (message_of c.args.message.now)
    c.self.inside.filter.value (texts c.self.inside.unshared.entries) c.self.inside.groups))

pub loop-client-preserved : goal.loop-client-preserved
loop-client-preserved c = grind (arith, common_steps)
