use Rattle.std.proofs.Common.{◌∙◌, sym, string_bytes, option_map}
use Rattle.mq_subscriptions.proofs.TreeLemmas.{tree-any, tree-absent_any}
use Rattle.mq_subscriptions.proofs.subscriptions.Subscriptions.contains.Goals as goal

pub returns-in-Some : goal.returns-in-Some
returns-in-Some c =
    c.contains.ensures
    ∙ rw (c.as_deref.ensures.value, ← c.self.view_is) (tree-any c.args.sub_filter.now.filter
    c.self.inside.tree c.self.invariant.listed.kept c.in-Some.at.now
    (rw c.in-Some.is at (sym c.get.ensures)) c.args.client.now
    (option_map string_bytes c.args.sub_filter.now.share))

pub returns-in-None : goal.returns-in-None
returns-in-None c =
    rw (← c.self.view_is) (tree-absent_any c.args.sub_filter.now.filter c.self.inside.tree
    c.self.invariant.listed.kept (rw c.in-None.is at (sym c.get.ensures)) c.args.client.now
    (option_map string_bytes c.args.sub_filter.now.share))
