use Rattle.std.proofs.Common.{sym, ◌∙◌}
use Rattle.mq_unify.proofs.TermLemmas.{goes_any, goes_single}
use Rattle.mq_unify.proofs.terms.plain_term.Goals as goal

pub returns-then-eq-clause-goes : goal.returns-then-eq-clause-goes
returns-then-eq-clause-goes c = λ values behind ls.
    goes_any values c.args.level.now behind ls (sym c.eq.ensures ∙ c.if-eq.true)

pub returns-clause-goes : goal.returns-clause-goes
returns-clause-goes c = λ values behind ls.
    goes_single values c.args.level behind ls (sym c.eq.ensures ∙ c.if-eq.false)
