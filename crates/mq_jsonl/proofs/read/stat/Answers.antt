use Rattle.mq_jsonl.specs.Reading.{stat_fields}
use Rattle.mq_jsonl.proofs.WalkLemmas.{begins, step, ends}
use Rattle.mq_jsonl.proofs.read.stat.Goals as goal

pub returns-clause-value : goal.returns-clause-value
unfolding stat_fields
returns-clause-value c =
    simp (begins c.of-fields.ensures, step c.skip.ensures, ends) c.finish.ensures.value
