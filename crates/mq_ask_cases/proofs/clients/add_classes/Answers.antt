use Rattle.std.proofs.lemmas.Result.{on_ok_weaker}
use Rattle.mq_ask_cases.proofs.ClientLemmas.{lent, parts_of}
use Rattle.mq_ask_cases.proofs.clients.add_classes.Goals as goal

pub returns : goal.returns
returns c = on_ok_weaker c.add_others.result
    (λ third. parts_of (lent c.args.all.now) _ _ _ _ c.in_ok-add_none.ensures
    c.in_ok-add_users.ensures third) c.add_others.ensures
