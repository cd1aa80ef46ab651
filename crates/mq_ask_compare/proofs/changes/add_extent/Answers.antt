use Rattle.std.proofs.lemmas.Result.{on_ok_weaker}
use Rattle.mq_ask_compare.proofs.WordedLemmas.{extent_is}
use Rattle.mq_ask_compare.proofs.changes.add_extent.Goals as goal

pub returns : goal.returns
returns c = on_ok_weaker c.write.result
    (λ added. extent_is _ c.every_word-every.result.now _ c.args.only c.every_word-every.ensures
    added) c.write.ensures.bytes
