use Rattle.std.proofs.Common.{◌≡◌, ◌++◌, map, take}
use Rattle.serde_json.specs.View.{view}
use Rattle.mq_jsonl.specs.Printed.{whole_data}
use Rattle.mq_jsonl.proofs.object.push_numbers.Given as goal

abbrev pub invariant-loop-n : goal.invariant-loop-n
invariant-loop-n l = map view l.list.items ≡ map view l.fn.list.items
    ++ map whole_data (take l.n-index l.numbers)
