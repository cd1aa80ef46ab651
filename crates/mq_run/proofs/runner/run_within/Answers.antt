use Rattle.mq_run.proofs.runner.run_within.Goals as goal

pub returns-clause-ending : goal.returns-clause-ending
returns-clause-ending g c = c.run_with.ensures.ending

pub returns-clause-headline : goal.returns-clause-headline
returns-clause-headline g c = c.run_with.ensures.headline
