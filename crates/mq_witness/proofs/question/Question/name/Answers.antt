use Rattle.std.proofs.Common.{ap, ◌∙◌}
use Rattle.mq_topic.specs.Texts.{is_name}
use Rattle.mq_witness.proofs.AskLemmas.{choices_fit, found_hits, found_is_name, memory_is}
use Rattle.mq_witness.proofs.question.Question.name.Goals as goal

pub find-requires-clause-must : goal.find-requires-clause-must
find-requires-clause-must c = choices_fit c.args.self.now.fresh c.deref.ensures.value
    c.args.self.now.can_ask.must_fits

pub find-requires-clause-cover : goal.find-requires-clause-cover
find-requires-clause-cover c = choices_fit c.args.self.now.fresh c.deref-2.ensures.value
    c.args.self.now.can_ask.cover_fits

pub returns-in-Ok-clause-some : goal.returns-in-Ok-clause-some
returns-in-Ok-clause-some c =
    found_hits c.args.self.now (record {
      start_is = c.start-start.ensures;
      must_is = c.deref.ensures.value;
      cover_is = c.deref-2.ensures.value;
    })
    (c.in-Ok.ensures.text ∙ c.as_str.ensures.value ∙ c.in_ok-text.ensures)
    (c.in_ok-path.ensures.some c.in-Some.path c.in-Some.is)
    (c.in_ok-path.ensures.known c.in-Some.path c.in-Some.is)

pub unreachable-requires : goal.unreachable-requires
unreachable-requires c =
    let valid = ap is_name (c.as_str.ensures.value ∙ c.in_ok-text.ensures)
    ∙ found_is_name c.args.self.now (record {
      start_is = c.start-start.ensures;
      must_is = c.deref.ensures.value;
      cover_is = c.deref-2.ensures.value;
    }) (c.in_ok-path.ensures.some c.in-Some.path c.in-Some.is) in
    c.in_default-fault.not-Memory (memory_is c.in-Err.fault (c.in-Err.ensures.valid ∙ valid))
