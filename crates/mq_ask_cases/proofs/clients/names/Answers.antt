use Rattle.mq_ask_cases.proofs.ClientLemmas.{names_more}
use Rattle.mq_ask_cases.proofs.clients.names.Goals as goal

pub loop-one-preserved : goal.loop-one-preserved
loop-one-preserved c =
    names_more c.args.all.now c.loop-one.one-index c.one-item.result _ _ c.loop-one-test.true
    c.one-item.is c.loop-one.invariant c.in_ok-add_user.ensures
