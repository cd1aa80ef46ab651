use Rattle.mq_jsonl.specs.Reading.{disconnect_fields}
use Rattle.mq_jsonl.proofs.WalkLemmas.{begins, step, ends}
use Rattle.mq_jsonl.proofs.read.disconnect.Goals as goal

pub returns-clause-value : goal.returns-clause-value
unfolding disconnect_fields
returns-clause-value c = simp (
  begins c.of-fields.ensures,
  step c.required_text-client.ensures,
  step c.skip.ensures,
  ends,
) c.finish.ensures.value
