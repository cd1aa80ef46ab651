use Rattle.std.proofs.Common.{[], inr}
use Rattle.mq_cli.specs.Program.{AnswersScript}
use Rattle.mq_run.proofs.FrontLemmas.{AppendsSome-none}
use Rattle.mq_cli.proofs.ProgramLemmas.{IfOk-some, IfErr-map}
use Rattle.mq_cli.proofs.program.run_file.Goals as goal

pub returns-in_err-source-clause-prefix : goal.returns-in_err-source-clause-prefix
returns-in_err-source-clause-prefix g c = λ w stands. ([], AppendsSome-none _ _)

pub returns-clause-ok : goal.returns-clause-ok
returns-clause-ok g c = λ w before stands taken.
    IfOk-some c.run_source.result _
    (λ script summary. AnswersScript w script before (g.W.Sink.taken c.run_source.new.out)
    summary)
    (c.run_source.ensures.ok w before stands taken)

pub returns-clause-prefix : goal.returns-clause-prefix
returns-clause-prefix g c = λ w stands. let front = c.run_source.ensures.prefix w stands in
    (front.0, front.2)

pub returns-clause-err : goal.returns-clause-err
returns-clause-err g c = IfErr-map c.run_source.result _ _ (λ failure three. inr three)
    c.run_source.ensures.err
