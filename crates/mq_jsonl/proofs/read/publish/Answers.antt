use Rattle.mq_jsonl.specs.Reading.{publish_fields}
use Rattle.mq_jsonl.proofs.WalkLemmas.{begins, step, ends}
use Rattle.mq_jsonl.proofs.read.publish.Goals as goal

pub returns-clause-value : goal.returns-clause-value
unfolding publish_fields
returns-clause-value c = simp (
  begins c.of-fields.ensures,
  step c.required_text-client.ensures,
  step c.skip.ensures,
  step c.optional_number-expiry.ensures.read,
  step c.text_or_empty-payload.ensures,
  step c.number_or_zero-qos.ensures.read,
  step c.is_set-retain.ensures,
  step c.required_text-topic.ensures,
  ends,
) c.finish.ensures.value
