use Rattle.std.proofs.Common.{rules}
use Rattle.mq_topic.proofs.validity.first_fault.Goals as goal

pub returns-then-text-gt-BYTE_LIMIT-clause-first : goal.returns-then-text-gt-BYTE_LIMIT-clause-first
returns-then-text-gt-BYTE_LIMIT-clause-first c = search rules

pub returns-then-is_empty-clause-first : goal.returns-then-is_empty-clause-first
returns-then-is_empty-clause-first c = search rules
