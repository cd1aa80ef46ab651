use Rattle.mq_run.proofs.HeadlineLemmas.{headline}
use Rattle.mq_run.proofs.runner.run_with.Goals as goal

pub returns-clause-ending : goal.returns-clause-ending
returns-clause-ending g c = λ w stands. c.answer_all.ensures.ending w
    (c.new-progress.ensures.so_far w _ stands)

-- the headline follows from the end
pub returns-clause-headline : goal.returns-clause-headline
returns-clause-headline g c = λ w stands.
    headline c.args.options.limit w _ _ _ (c.answer_all.ensures.ending w
    (c.new-progress.ensures.so_far w _ stands))
