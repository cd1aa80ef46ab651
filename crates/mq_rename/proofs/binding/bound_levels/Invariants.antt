use Rattle.std.proofs.Common.{drop, length}
use Rattle.std.specs.List.{zip}
use Rattle.mq_topic.specs.Levels.{levels, levels_left}
use Rattle.mq_rename.specs.Lists.{texts}
use Rattle.mq_rename.proofs.BindLemmas.{IsBinding}
use Rattle.mq_rename.proofs.binding.bound_levels.Given as goal

-- the left side is bound as far as the loop has come
abbrev pub invariant-loop-level : goal.invariant-loop-level
invariant-loop-level l = record {
  can_next : (goal.iterator-loop-level).can_next l.level-iterator;
  is_finite : (goal.iterator-loop-level).is_finite l.level-iterator;
  bound : IsBinding (levels l.left) (zip (levels l.right) l.places) (levels l.filter)
      (texts l.bound.items) (drop (length l.yielded) (zip (levels l.right) l.places))
      (levels_left l.filter_rest);
}
