use Rattle.mq_through.proofs.LoopLemmas.{clients_more}
use Rattle.mq_through.proofs.tried.add_region.Goals as goal

pub loop-client-preserved : goal.loop-client-preserved
loop-client-preserved c =
    let k = c.args.comparison.now in (
      clients_more k.plan.now k.old.now k.new.now c.args.region.now c.args.clients.now
          c.loop-client.client-index _ c.args.found.now.items c.loop-client.found.items
          c.add_next.new.found.items c.loop-client-test.true c.in_ok-made.ensures.grows
          c.in_ok-made.ensures.shown c.loop-client.invariant.0,
      (
        _,
        c.requires.clients c.loop-client.client-index _ c.loop-client-test.true,
        c.in_ok-made.ensures.made,
        c.in_ok-made.ensures.shown,
      ),
    )
