use Rattle.std.proofs.Common.{rules}
use Rattle.mq_jsonl.proofs.fields.Fields.are_faulty.Goals as goal

pub returns-else-self-clause-read : goal.returns-else-self-clause-read
returns-else-self-clause-read c = search rules
