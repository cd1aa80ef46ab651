use Rattle.std.proofs.Common.{refl}
use Rattle.std.specs.List.Sorted.{IsStrictlySortedBy}
use Rattle.mq_tree.proofs.tree.LevelTree.new.Goals as goal

pub invariant_of-result : goal.invariant_of-result
unfolding IsStrictlySortedBy
invariant_of-result g c = record {
  ordered = rw c.new.ensures tt;
  counted = λ low. rw c.new.ensures refl;
}
