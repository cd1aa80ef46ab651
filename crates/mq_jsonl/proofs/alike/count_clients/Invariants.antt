use Rattle.std.proofs.Common.{All, take}
use Rattle.mq_world.specs.Views.{copy_of}
use Rattle.mq_jsonl.specs.Shared.{SameButClient}
use Rattle.mq_jsonl.proofs.alike.count_clients.Given as goal

abbrev pub invariant-loop-count : goal.invariant-loop-count
invariant-loop-count l =
    All (λ d. SameButClient (copy_of l.first) (copy_of d)) (take l.count l.others)
