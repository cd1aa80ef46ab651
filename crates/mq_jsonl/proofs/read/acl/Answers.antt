use Rattle.mq_jsonl.specs.Reading.{acl_fields}
use Rattle.mq_jsonl.proofs.WalkLemmas.{begins, step, ends}
use Rattle.mq_jsonl.proofs.read.acl.Goals as goal

pub returns-clause-value : goal.returns-clause-value
unfolding acl_fields
returns-clause-value c = simp (
  begins c.of-fields.ensures,
  step c.skip.ensures,
  step c.optional_text-text.ensures,
  ends,
) c.finish.ensures.value
