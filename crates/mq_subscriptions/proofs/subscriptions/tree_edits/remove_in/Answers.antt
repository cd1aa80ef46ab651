use Rattle.std.proofs.Common.{◌∙◌, sym, ap, refl}
use Rattle.std.specs.List.{list_any}
use Rattle.mq_topic.specs.Texts.{share_of}
use Rattle.mq_world.specs.World.{has_key}
use Rattle.mq_subscriptions.specs.Filters.{all_rows}
use Rattle.mq_subscriptions.proofs.TreeLemmas.{tree-any, tree-absent_any, tree-left, tree-gone}
use Rattle.mq_subscriptions.proofs.TreeLemmas.{tree-absent, set-kept, out-kept}
use Rattle.mq_subscriptions.proofs.EntryLemmas.{keyed}
use Rattle.mq_subscriptions.proofs.InTurn.{leaving}
use Rattle.mq_subscriptions.proofs.subscriptions.tree_edits.remove_in.Goals as goal

pub returns-in_default-clause-rows : goal.returns-in_default-clause-rows
returns-in_default-clause-rows c =
    let client = c.args.client.now in
    let share = share_of c.args.text.now in
    rw (c.get_mut.follows.holds-at-none, ← c.split-filter.ensures.filter)
    (tree-absent c.split-filter.result.1 c.args.tree.now c.requires.kept
    (rw c.in_default.is at (sym c.get_mut.ensures.value)) client share
    (leaving (keyed client share c.split-filter.result.1)) refl)

pub returns-in_default-clause-existed : goal.returns-in_default-clause-existed
returns-in_default-clause-existed c =
    let share = share_of c.args.text.now in
    tree-absent_any c.split-filter.result.1 c.args.tree.now c.requires.kept
    (rw c.in_default.is at (sym c.get_mut.ensures.value)) c.args.client.now share
    ∙ ap (λ g. list_any (has_key c.args.client.now share g) (all_rows c.args.tree.now))
    c.split-filter.ensures.filter

pub returns-then-is_empty : goal.returns-then-is_empty
returns-then-is_empty c =
    let f = c.split-filter.result.1 in
    let client = c.args.client.now in
    let share = share_of c.args.text.now in
    let tree = c.args.tree.now in
    let v = c.in-Some.at.now in
    let w = c.remove.new.self in
    let mid = c.get_mut.follows.lender w in
    let found = rw c.in-Some.is at (sym c.get_mut.ensures.value) in
    let set = rw c.in-Some.is at (c.get_mut.follows.holds w) in
    record {
      existed = (rw c.split-filter.ensures.share at c.contains-existed.ensures)
          ∙ tree-any f tree c.requires.kept v found client share
          ∙ ap (λ g. list_any (has_key client share g) (all_rows tree))
          c.split-filter.ensures.filter;
      rows = rw (← c.split-filter.ensures.filter) (tree-gone f tree c.requires.kept v found w
          c.remove.ensures.filter c.remove.ensures.here mid set client share c.take.new.self
          c.take.ensures.rest (sym c.is_empty.ensures ∙ c.if-is_empty.true)
          (rw c.split-filter.ensures.share at c.remove.ensures.rows));
      kept = out-kept f tree c.requires.kept v found w c.remove.ensures.filter
          c.remove.ensures.here mid set c.take.new.self c.take.ensures.rest;
    }

pub returns-else-is_empty : goal.returns-else-is_empty
returns-else-is_empty c =
    let f = c.split-filter.result.1 in
    let client = c.args.client.now in
    let share = share_of c.args.text.now in
    let tree = c.args.tree.now in
    let v = c.in-Some.at.now in
    let w = c.remove.new.self in
    let new = c.get_mut.follows.lender w in
    let found = rw c.in-Some.is at (sym c.get_mut.ensures.value) in
    let set = rw c.in-Some.is at (c.get_mut.follows.holds w) in
    record {
      existed = (rw c.split-filter.ensures.share at c.contains-existed.ensures)
          ∙ tree-any f tree c.requires.kept v found client share
          ∙ ap (λ g. list_any (has_key client share g) (all_rows tree))
          c.split-filter.ensures.filter;
      rows = rw (← c.split-filter.ensures.filter) (tree-left f tree c.requires.kept v found w
          c.remove.ensures.filter c.remove.ensures.here new set client share
          (rw c.split-filter.ensures.share at c.remove.ensures.rows));
      kept = set-kept f tree c.requires.kept v found w c.remove.ensures.filter
          c.remove.ensures.here new set (sym c.is_empty.ensures ∙ c.if-is_empty.false);
    }
