use Rattle.mq_jsonl.specs.Reading.{connect_fields}
use Rattle.mq_jsonl.proofs.WalkLemmas.{begins, step, ends}
use Rattle.mq_jsonl.proofs.read.connect.Goals as goal

pub returns-clause-value : goal.returns-clause-value
unfolding connect_fields
returns-clause-value c = simp (
  begins c.of-fields.ensures,
  step c.flag_or-clean.ensures,
  step c.required_text-client.ensures,
  step c.skip.ensures,
  step c.number_or_zero-session_expiry.ensures.read,
  step c.optional_text-user.ensures,
  ends,
) c.finish.ensures.value
