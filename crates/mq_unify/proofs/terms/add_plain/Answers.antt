use Rattle.mq_unify.proofs.TermLemmas.{goes_more}
use Rattle.mq_unify.proofs.terms.add_plain.Goals as goal

pub returns-clause-goes : goal.returns-clause-goes
returns-clause-goes c = λ values. goes_more values c.args.terms.now.items c.push.new.self.items
    c.plain_term.result c.args.level.now c.in_ok-push.ensures.items (c.plain_term.ensures.goes values)
