use Rattle.std.proofs.Common.{◌∙◌, sym, true≢false}
use Rattle.mq_subscriptions.proofs.EntryLemmas.{empty-is, not_empty}
use Rattle.mq_subscriptions.proofs.subscriptions.filter_entry.FilterEntry.is_empty.Goals as goal

pub returns-then-is_empty : goal.returns-then-is_empty
returns-then-is_empty c =
    rw (← c.self.view_is)
    (empty-is c.self.inside.filter.value c.self.inside.unshared.entries c.self.inside.groups
    c.is_empty-then-is_empty.result (c.is_empty-then-is_empty.ensures c.self.inside.filter.value)
    (c.is_empty.ensures.0 c.if-is_empty.true))

pub returns-else-is_empty : goal.returns-else-is_empty
returns-else-is_empty c =
    rw (← c.self.view_is) (c.if-is_empty.false
    ∙ not_empty c.self.inside.filter.value c.self.inside.unshared.entries c.self.inside.groups
    (λ e. true≢false (sym (c.is_empty.ensures.1 e) ∙ c.if-is_empty.false)))
