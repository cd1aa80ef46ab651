use Rattle.std.proofs.Common.{ap, ◌∙◌}
use Rattle.mq_topic.specs.Texts.{is_name}
use Rattle.mq_witness.proofs.AskLemmas.{memory_is}
use Rattle.mq_witness.proofs.ruled_texts.witness_of.Goals as goal

pub unreachable-requires : goal.unreachable-requires
unreachable-requires c =
    let valid = ap is_name c.as_str.ensures.value ∙ c.requires in
    c.in_default.not-Memory (memory_is c.in-Err.fault (c.in-Err.ensures.valid ∙ valid))
