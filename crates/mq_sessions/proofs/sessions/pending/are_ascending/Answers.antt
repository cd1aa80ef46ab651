use Rattle.std.proofs.Common.{◌∙◌, sym}
use Rattle.mq_sessions.proofs.PendingLemmas.{first_led, few_ascend}
use Rattle.mq_sessions.proofs.sessions.pending.are_ascending.Goals as goal

pub loop-rest-preserved : goal.loop-rest-preserved
loop-rest-preserved c = λ rest.
    c.loop-rest.invariant (first_led c.loop-rest.rest.now c.first-item.result c.second-item.result
    _ _ c.in-len2-up.len_at_least c.first-item.is c.second-item.is (sym c.ge.ensures ∙ c.if-ge.false)
    rest)

pub returns : goal.returns
returns c = λ whole. c.loop-rest.invariant (few_ascend c.loop-rest.rest.now c.in_default.len_below)
