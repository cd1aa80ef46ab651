use Rattle.std.proofs.Common.{◌≡◌}
use Rattle.mq_rename.specs.Lists.{texts}
use Rattle.mq_regions.specs.Filled.{fill_levels}
use Rattle.mq_regions.proofs.fill.filled_levels.Given as goal

-- the levels so far are filled
abbrev pub invariant-loop-level : goal.invariant-loop-level
invariant-loop-level l = record {
  can_next : (goal.iterator-loop-level).can_next l.level-iterator;
  is_finite : (goal.iterator-loop-level).is_finite l.level-iterator;
  made : texts l.made.items ≡ fill_levels l.mark l.text (texts l.yielded);
}
