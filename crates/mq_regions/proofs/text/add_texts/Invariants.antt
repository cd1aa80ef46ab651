use Rattle.std.proofs.Common.{◌≡◌, ◌||◌, ◌&&◌, ℕ, List, Bool}
use Rattle.std.specs.List.{list_any}
use Rattle.mq_rename.specs.Lists.{texts}
use Rattle.mq_regions.specs.Own.{is_own}
use Rattle.mq_regions.proofs.text.add_texts.Given as goal

-- the levels so far are added
abbrev pub invariant-loop-level : goal.invariant-loop-level
invariant-loop-level l = record {
  can_next : (goal.iterator-loop-level).can_next l.level-iterator;
  is_finite : (goal.iterator-loop-level).is_finite l.level-iterator;
  added : (p : List ℕ → Bool) → list_any p (texts l.found.items)
      ≡ (list_any p (texts l.fn.found.items)
      || list_any (λ level. is_own level && p level) (texts l.yielded));
}
