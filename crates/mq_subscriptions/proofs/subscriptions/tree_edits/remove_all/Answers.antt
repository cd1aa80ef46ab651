use Rattle.std.proofs.Common.{◌∙◌, sym, map}
use Rattle.std.specs.Map.Iter.{deref}
use Rattle.std.proofs.lemmas.Map.Iter.{rest_more, rest_all}
use Rattle.mq_subscriptions.specs.Filters.{all_rows}
use Rattle.mq_subscriptions.specs.ClientViews.{key_in}
use Rattle.mq_subscriptions.proofs.ListedLemmas.{one-leaves, none-leave}
use Rattle.mq_subscriptions.proofs.subscriptions.tree_edits.remove_all.Goals as goal

pub remove_counted-requires-clause-valid : goal.remove_counted-requires-clause-valid
remove_counted-requires-clause-valid c =
    let left = rest_more deref _ _ _ c.in-Some.text c.in-Some.is c.next.ensures.steps in
    rw c.as_str.ensures.value (rw left at c.loop-text.invariant.valid).0

pub loop-text-preserved : goal.loop-text-preserved
loop-text-preserved c =
    let rest = map key_in c.next.new.self in
    let rows = all_rows c.loop-text.tree in
    let left = rest_more deref _ _ _ c.in-Some.text c.in-Some.is c.next.ensures.steps in
    record {
      rows = rw (c.remove_counted.ensures.rows, c.as_str.ensures.value)
          (one-leaves c.args.client.now (key_in c.in-Some.text.now) rest rows
          ∙ (rw left at c.loop-text.invariant.rows));
      kept = c.remove_counted.ensures.kept;
      counted = c.remove_counted.ensures.counted;
      valid = (rw left at c.loop-text.invariant.valid).1;
    }

pub returns-clause-rows : goal.returns-clause-rows
returns-clause-rows c =
    let done = rest_all deref _ _ _ c.in-None.is c.next.ensures.steps in
    sym (none-leave c.args.client.now (all_rows c.loop-text.tree))
    ∙ (rw done at c.loop-text.invariant.rows)
