use Rattle.std.proofs.Common.{◌∙◌, sym}
use Rattle.mq_topic.specs.Texts.{share_of, filter_part}
use Rattle.mq_world.specs.World.{Subscription}
use Rattle.mq_subscriptions.specs.Filters.{all_rows}
use Rattle.mq_subscriptions.proofs.CountLemmas.{one-fewer, counted-rest, none-fewer}
use Rattle.mq_subscriptions.proofs.EntryLemmas.{keyed}
use Rattle.mq_subscriptions.proofs.subscriptions.tree_edits.remove_counted.Goals as goal

pub one_less-requires : goal.one_less-requires
one_less-requires c =
    let text = c.args.text.now in
    let x : Subscription = keyed c.args.client.now (share_of text) (filter_part text) in
    rw c.remove_in-existed.ensures.rows (one-fewer c.args.count.now x (all_rows c.args.tree.now)
    c.requires.counted (sym c.remove_in-existed.ensures.existed ∙ c.if-existed.true))

pub returns-then-existed-clause-counted : goal.returns-then-existed-clause-counted
returns-then-existed-clause-counted c =
    let text = c.args.text.now in
    let x : Subscription = keyed c.args.client.now (share_of text) (filter_part text) in
    rw c.remove_in-existed.ensures.rows (counted-rest c.args.count.now c.one_less.result x
    (all_rows c.args.tree.now) c.requires.counted
    (rw c.remove_in-existed.ensures.rows at c.one_less.ensures))

pub returns-else-existed-clause-counted : goal.returns-else-existed-clause-counted
returns-else-existed-clause-counted c =
    let text = c.args.text.now in
    let x : Subscription = keyed c.args.client.now (share_of text) (filter_part text) in
    rw c.remove_in-existed.ensures.rows (none-fewer c.args.count.now x (all_rows c.args.tree.now)
    c.requires.counted (sym c.remove_in-existed.ensures.existed ∙ c.if-existed.false))
