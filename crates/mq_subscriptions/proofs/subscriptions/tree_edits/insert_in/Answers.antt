use Rattle.std.proofs.Common.{sym, option_copied}
use Rattle.std.specs.Rc.{rc_str_bytes}
use Rattle.std.proofs.lemmas.Result.{on_ok_weaker, on_err_weaker}
use Rattle.mq_topic.specs.Levels.{levels}
use Rattle.mq_tree.specs.Entries.{is_key}
use Rattle.mq_subscriptions.specs.Filters.{Entry}
use Rattle.mq_subscriptions.proofs.Outcomes.{by_outcome}
use Rattle.mq_subscriptions.proofs.TreeLemmas.{tree-joined, tree-same}
use Rattle.mq_subscriptions.proofs.subscriptions.tree_edits.insert_in.Goals as goal

pub returns-in-Some : goal.returns-in-Some
returns-in-Some c =
    let f = c.args.sub_filter.now.filter in
    let tree = c.args.tree.now in
    let key = is_key (levels f) in
    let v : Entry = c.in-Some.at.now in
    let w : Entry = c.insert.new.self in
    let found = rw c.in-Some.is at (sym c.get_mut.ensures.value) in
    let set = rw c.in-Some.is at (c.get_mut.follows.holds w) in
    let join = tree-joined f tree c.requires.kept v found w c.insert.ensures.filter c.insert.ensures.here
    (c.get_mut.follows.lender w) set (option_copied c.as_deref.result)
    (rc_str_bytes c.in_ok-client.client, c.args.options) in
    record {
      ok = on_ok_weaker c.insert.result
          (λ joined. rw (c.as_deref.ensures.value, c.in_ok-client.ensures.cases) at (join joined).1)
          c.insert.ensures.ok;
      err = on_err_weaker c.insert.result
          (tree-same f tree v w (c.get_mut.follows.lender w) found set) c.insert.ensures.err;
      kept = by_outcome c.insert.result c.insert.ensures.ok c.insert.ensures.err
          (λ joined. (join joined).0)
          (λ same. rw (tree-same f tree v w (c.get_mut.follows.lender w) found set same)
          c.requires.kept);
    }

pub returns-in-None-clause-ok : goal.returns-in-None-clause-ok
returns-in-None-clause-ok c =
    rw (c.in_ok-client.ensures.cases, c.get_mut.follows.holds-at-none) at c.add_in-in-None.ensures.ok
