use Rattle.std.proofs.Common.{◌≡◌, None, rules}
use Rattle.mq_jsonl.specs.Reading.{value_of}
use Rattle.mq_jsonl.proofs.TextLemmas.{value_of-text, value_of-refused}
use Rattle.mq_jsonl.proofs.read.value.Goals as goal

pub returns-in-Ok : goal.returns-in-Ok
returns-in-Ok c = let h = c.in-Ok.ensures in rw (value_of-text c.args.line.now _ h.ok.0 h.ok.1)

pub returns-else-is_memory : goal.returns-else-is_memory
returns-else-is_memory c =
    let none : value_of c.args.line.now ≡ None =
    value_of-refused c.args.line.now
    (λ u. c.in-Err.ensures.err (λ m. search (rules, c.is_memory.ensures.1 m)) u) in
    rw none
