use Rattle.std.proofs.Common.{◌≡◌, ◌+◌, length, sym, ap, ◌∙◌, arith}
use Rattle.mq_subscriptions.specs.Filters.{Entry, group_rows}
use Rattle.mq_subscriptions.proofs.EntryLemmas.{at-number}
use Rattle.mq_subscriptions.proofs.subscriptions.filter_entry.FilterEntryCounted.count.Goals as goal

pub returns : goal.returns
returns c =
    let f = c.self.inside.filter.value in
    let number : length c.args.self.now.rows ≡ length c.self.inside.unshared.entries
    + length (group_rows f c.self.inside.groups) =
    sym (ap (λ (a : Entry). length a.rows) c.self.view_is)
    ∙ at-number f c.self.inside.unshared.entries c.self.inside.groups in
    omega (arith, number, c.saturating_add.ensures, c.member_count.ensures f, c.len.ensures.len)
