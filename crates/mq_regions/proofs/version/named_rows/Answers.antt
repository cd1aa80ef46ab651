use Rattle.std.proofs.Common.{[], ℕ, List, Bor, append-nil, sym, Some, None}
use Rattle.mq_regions.proofs.LineLemmas.{named_step, text_short}
use Rattle.mq_regions.proofs.version.named_rows.Goals as goal

abbrev none : Bor (List ℕ)
none = record { ref_ptr = (0, 0); now = [] }

pub named_row-requires-clause-text : goal.named_row-requires-clause-text
named_row-requires-clause-text c =
    text_short c.args.named.now c.loop-text.text-index none c.loop-text-test.true c.requires.named

pub loop-text-preserved-in_default : goal.loop-text-preserved-in_default
loop-text-preserved-in_default c =
    named_step c.args.row.now c.args.asked.now.client.now c.args.filter.now c.args.named.now
    c.loop-text.text-index none None c.loop-text-test.true
    (sym (append-nil c.loop-text.rows.items)) c.loop-text.invariant
    (rw c.in_default.is at c.in_ok-own.ensures.group)

pub loop-text-preserved : goal.loop-text-preserved
loop-text-preserved c =
    named_step c.args.row.now c.args.asked.now.client.now c.args.filter.now c.args.named.now
    c.loop-text.text-index none (Some c.in-Some.own) c.loop-text-test.true c.in_ok-push.ensures
    c.loop-text.invariant (rw c.in-Some.is at c.in_ok-own.ensures.group)
