use Rattle.mq_jsonl.proofs.FloatLemmas.{numbers_none}
use Rattle.mq_jsonl.proofs.object.Object.numbers_if.Goals as goal

pub put-requires : goal.put-requires
put-requires c = rw c.in_ok-list.ensures (numbers_none c.args.numbers.now)
