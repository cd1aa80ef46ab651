use Rattle.mq_jsonl.proofs.read.finish.Goals as goal

pub returns-then-are_faulty-clause-value : goal.returns-then-are_faulty-clause-value
returns-then-are_faulty-clause-value c = rw (c.are_faulty.ensures.faulty c.if-are_faulty.true)

pub returns-clause-value : goal.returns-clause-value
returns-clause-value c = rw (c.are_faulty.ensures.read c.if-are_faulty.false)
