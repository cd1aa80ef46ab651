use Rattle.std.proofs.Common.{ap, ◌∙◌}
use Rattle.mq_topic.specs.Texts.{is_filter}
use Rattle.mq_witness.proofs.AskLemmas.{memory_is}
use Rattle.mq_witness.proofs.RuledSearchLemmas.{states_valid}
use Rattle.mq_witness.proofs.ruled_texts.states_filter.Goals as goal

pub unreachable-requires : goal.unreachable-requires
unreachable-requires c =
    let valid = ap is_filter c.state_filter.ensures ∙ states_valid in
    c.in_default.not-Memory (memory_is c.in-Err.fault (c.in-Err.ensures.valid ∙ valid))
