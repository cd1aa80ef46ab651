use Rattle.std.proofs.Common.{IfSome, length}
use Rattle.mq_world.specs.Views.{copy_of}
use Rattle.mq_jsonl.specs.Behind.{Keeps}
use Rattle.mq_jsonl.proofs.AddedLemmas.{IsPrinted}
use Rattle.mq_jsonl.proofs.copies.Copies.print_all.Given as goal

abbrev pub invariant-loop-first : goal.invariant-loop-first
invariant-loop-first l = record {
  out : IsPrinted l.line l.all l.left l.fn.out.items l.out.items;
  kept : IfSome l.before (λ before. Keeps l.line (copy_of before.now) l.self.plain l.self.with_ids
      l.self.with_expiry l.self.with_group);
}

abbrev pub decreases-loop-first : goal.decreases-loop-first
decreases-loop-first l = length l.left
