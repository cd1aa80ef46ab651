use Rattle.std.proofs.Common.{◌∙◌, sym}
use Rattle.mq_ask_reach.proofs.short_topic.is_read.Goals as goal

pub returns-then-matches : goal.returns-then-matches
returns-then-matches c = λ e. record {
  matched = sym c.matches.ensures ∙ c.if-matches.true;
  may_read = sym c.why.ensures.allowed ∙ sym c.is_allowed.ensures ∙ e;
}
