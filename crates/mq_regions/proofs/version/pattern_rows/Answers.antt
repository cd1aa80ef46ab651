use Rattle.std.proofs.Common.{None, Some, append-nil, ap, sym, ◌∙◌}
use Rattle.mq_rename.specs.Lists.{has_long, texts}
use Rattle.mq_regions.proofs.FillLemmas.{no_client_left}
use Rattle.mq_regions.proofs.PatternLemmas.{pattern_made}
use Rattle.mq_regions.proofs.LineLemmas.{own_short}
use Rattle.mq_regions.proofs.version.pattern_rows.Goals as goal

pub named_rows-requires-clause-client : goal.named_rows-requires-clause-client
named_rows-requires-clause-client c =
    no_client_left c.args.asked.now.client.now c.args.row.now.filter c.in-Some.filter
    c.requires.asked.plain_client (rw c.in-Some.is at c.in_ok-filter.ensures.filled)

pub named_rows-requires-clause-named : goal.named_rows-requires-clause-named
named_rows-requires-clause-named c =
    let filled = rw c.in-Some.is at c.in_ok-filter.ensures.filled in
    ap (λ ts. has_long (texts ts)) c.deref.ensures.value
    ∙ own_short c.args.asked.now.kind.now c.in-Some.filter (texts c.in_ok-named.named.items)
    c.in_ok-named.ensures c.requires.asked.short_kind filled.short

pub returns-in_default-2-clause-group : goal.returns-in_default-2-clause-group
returns-in_default-2-clause-group c =
    let asked = c.args.asked.now in
    pattern_made asked.side asked.kind.now c.args.row.now asked.client.now c.in-Some.filter
    (texts c.in_ok-named.named.items) c.in_ok-rows.rows.items c.in_ok-rows.rows.items None
    c.requires.asked c.requires.owner (rw c.in-Some.is at c.in_ok-filter.ensures.filled)
    c.in_ok-named.ensures (rw c.deref.ensures.value at c.in_ok-rows.ensures.group)
    (rw c.in_default-2.is at c.in_ok-general.ensures.row) (sym (append-nil c.in_ok-rows.rows.items))

pub returns-clause-group : goal.returns-clause-group
returns-clause-group c =
    let asked = c.args.asked.now in
    pattern_made asked.side asked.kind.now c.args.row.now asked.client.now c.in-Some.filter
    (texts c.in_ok-named.named.items) c.in_ok-rows.rows.items c.push.new.rows.items
    (Some c.in-Some-2.general) c.requires.asked c.requires.owner
    (rw c.in-Some.is at c.in_ok-filter.ensures.filled) c.in_ok-named.ensures
    (rw c.deref.ensures.value at c.in_ok-rows.ensures.group)
    (rw c.in-Some-2.is at c.in_ok-general.ensures.row) c.in_ok-push.ensures
