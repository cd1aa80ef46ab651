use Rattle.std.proofs.Common.{◌≡◌, Bor, List, ℕ, map}
use Rattle.mq_expect.specs.Expectations.{named}
use Rattle.mq_expect.specs.Views.{whom_view}
use Rattle.mq_expect.proofs.excepted.named.Given as goal

-- the first are those that they name
abbrev pub invariant-loop-name : goal.invariant-loop-name
invariant-loop-name l = record {
  can_next : (goal.iterator-loop-name).can_next l.name-iterator;
  is_finite : (goal.iterator-loop-name).is_finite l.name-iterator;
  all : map whom_view l.all.items ≡ map named (map (λ (n : Bor (List ℕ)). n.now) l.yielded);
}
