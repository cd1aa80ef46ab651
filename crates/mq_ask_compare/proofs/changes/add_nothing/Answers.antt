use Rattle.std.proofs.lemmas.Result.{on_ok_weaker}
use Rattle.mq_ask_compare.proofs.WordedLemmas.{allows_nothing}
use Rattle.mq_ask_compare.proofs.changes.add_nothing.Goals as goal

pub returns : goal.returns
returns c = on_ok_weaker c.write.result (λ added. allows_nothing _ _ _ _ added)
    c.write.ensures.bytes
