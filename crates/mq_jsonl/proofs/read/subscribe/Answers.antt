use Rattle.mq_jsonl.specs.Reading.{subscribe_fields}
use Rattle.mq_jsonl.proofs.WalkLemmas.{begins, step, ends}
use Rattle.mq_jsonl.proofs.read.subscribe.Goals as goal

pub returns-clause-value : goal.returns-clause-value
unfolding subscribe_fields
returns-clause-value c = simp (
  begins c.of-fields.ensures,
  step c.required_text-client.ensures,
  step c.skip.ensures,
  step c.required_text-filter.ensures,
  step c.number_or_zero-handling.ensures.read,
  step c.optional_number-id.ensures.read,
  step c.is_set-no_local.ensures,
  step c.number_or_zero-qos.ensures.read,
  step c.is_set-rap.ensures,
  ends,
) c.finish.ensures.value
