use Rattle.std.proofs.Common.{◌≡◌, ◌++◌, map, take}
use Rattle.std.specs.List.{flat_map}
use Rattle.mq_world.specs.Views.{copy_of}
use Rattle.mq_jsonl.specs.Printed.{copy_text}
use Rattle.mq_jsonl.proofs.printed.Printed.add_messages.Given as goal

abbrev pub invariant-loop-copy : goal.invariant-loop-copy
invariant-loop-copy l = l.out.items ≡ l.fn.out.items
    ++ flat_map (copy_text l.self.line) (map copy_of (take l.copy-index l.further))
