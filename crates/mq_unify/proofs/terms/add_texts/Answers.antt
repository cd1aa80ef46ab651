use Rattle.std.proofs.Common.{ap, ◌∙◌}
use Rattle.mq_topic.specs.Levels.{levels, levels_left}
use Rattle.mq_unify.proofs.TermLemmas.{adds_text}
use Rattle.mq_unify.proofs.terms.add_texts.Goals as goal

pub loop-rest-preserved : goal.loop-rest-preserved
loop-rest-preserved c =
    adds_text (levels c.args.text.now) (levels_left c.loop-rest.rest) _ c.split_first.result.0
    c.args.terms.now.items c.loop-rest.terms.items c.push.new.self.items
    (ap levels_left c.in-Some.is ∙ c.split_first.ensures) c.in_ok-push.ensures.items
    c.loop-rest.invariant
