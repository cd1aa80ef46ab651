use Rattle.mq_jsonl.specs.Reading.{advance_fields}
use Rattle.mq_jsonl.proofs.WalkLemmas.{begins, step, ends}
use Rattle.mq_jsonl.proofs.read.advance.Goals as goal

pub returns-clause-value : goal.returns-clause-value
unfolding advance_fields
returns-clause-value c = simp (
  begins c.of-fields.ensures,
  step c.skip.ensures,
  step c.required_number-seconds.ensures,
  ends,
) c.finish.ensures.value
