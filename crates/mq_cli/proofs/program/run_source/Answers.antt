use Rattle.std.proofs.Common.{Ok, Err}
use Rattle.mq_cli.proofs.ScriptLemmas.{EndsOver-script, EndsOver-front}
use Rattle.mq_cli.proofs.program.run_source.Goals as goal

pub returns-in-Ok-clause-ok : goal.returns-in-Ok-clause-ok
returns-in-Ok-clause-ok g c = λ w before stands taken.
    EndsOver-script c.new.result.limit w c.in-Ok.summary _ _ before
    (c.in-Ok.ensures.ending w stands) taken

pub returns-in-Ok-clause-prefix : goal.returns-in-Ok-clause-prefix
returns-in-Ok-clause-prefix g c = λ w stands.
    EndsOver-front c.new.result.limit w (Ok c.in-Ok.summary) _ _ (c.in-Ok.ensures.ending w stands)

pub returns-in-Err-clause-prefix : goal.returns-in-Err-clause-prefix
returns-in-Err-clause-prefix g c = λ w stands.
    EndsOver-front c.new.result.limit w (Err c.in-Err.fault) _ _ (c.in-Err.ensures.ending w stands)
