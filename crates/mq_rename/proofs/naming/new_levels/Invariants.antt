use Rattle.std.proofs.Common.{◌≡◌, ◌-◌, length, map, Bor, List, ℕ}
use Rattle.std.specs.List.{flat_map}
use Rattle.mq_topic.specs.Levels.{levels}
use Rattle.mq_rename.specs.Lists.{texts}
use Rattle.mq_rename.specs.Renames.{becomes}
use Rattle.mq_rename.proofs.naming.new_levels.Given as goal

-- the first are what the first on the right become
abbrev pub invariant-loop-level : goal.invariant-loop-level
invariant-loop-level l = record {
  can_next : (goal.iterator-loop-level).can_next l.level-iterator;
  is_finite : (goal.iterator-loop-level).is_finite l.level-iterator;
  made : texts l.made.items ≡ flat_map (becomes (length (levels l.left) - 1) (levels l.fn.name))
      (map (λ (q : Bor (List ℕ) × Bor ℕ). (q.0.now, q.1.now)) l.yielded);
}
