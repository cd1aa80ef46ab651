use Rattle.std.proofs.Common.{◌≡◌, map, filter}
use Rattle.std.specs.List.{AllByRecursion}
use Rattle.mq_subscriptions.specs.Filters.{all_rows, AreEntries, AreCounted}
use Rattle.mq_subscriptions.specs.ClientViews.{key_in, IsAsked}
use Rattle.mq_subscriptions.proofs.ListedLemmas.{leaves}
use Rattle.mq_subscriptions.proofs.subscriptions.tree_edits.remove_all.Given as goal

-- what is still to be taken out
abbrev pub invariant-loop-text : goal.invariant-loop-text
invariant-loop-text l = record {
  rows : filter (leaves l.client (map key_in l.text-iterator)) (all_rows l.tree)
      ≡ filter (leaves l.client l.filters) (all_rows l.initial.tree);
  kept : AreEntries l.tree;
  counted : AreCounted l.count (all_rows l.tree);
  valid : AllByRecursion IsAsked l.text-iterator;
}
