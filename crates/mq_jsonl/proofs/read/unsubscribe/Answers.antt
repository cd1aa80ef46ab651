use Rattle.mq_jsonl.specs.Reading.{unsubscribe_fields}
use Rattle.mq_jsonl.proofs.WalkLemmas.{begins, step, ends}
use Rattle.mq_jsonl.proofs.read.unsubscribe.Goals as goal

pub returns-clause-value : goal.returns-clause-value
unfolding unsubscribe_fields
returns-clause-value c = simp (
  begins c.of-fields.ensures,
  step c.required_text-client.ensures,
  step c.skip.ensures,
  step c.required_text-filter.ensures,
  ends,
) c.finish.ensures.value
