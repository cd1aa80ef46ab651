use Rattle.std.proofs.lemmas.Result.{IfOk-weaker}
use Rattle.mq_cli.specs.CommandLine.{faults_in}
use Rattle.mq_cli.proofs.ProgramLemmas.{IfErr-map}
use Rattle.mq_cli.proofs.RulesLemmas.{memory_is_fault}
use Rattle.mq_cli.proofs.command_line.options_in.Goals as goal

pub returns-in-Ok-clause-ok : goal.returns-in-Ok-clause-ok
returns-in-Ok-clause-ok c =
    IfOk-weaker c.options_by.result _ _
    (λ options is words rows. is words rows (c.in-Ok.ensures.ok words rows))
    c.options_by.ensures.ok

pub returns-in-Ok-clause-err : goal.returns-in-Ok-clause-err
returns-in-Ok-clause-err c =
    IfErr-map c.options_by.result _ _
    (λ fault memory words rows taken. memory_is_fault (faults_in words) fault memory)
    c.options_by.ensures.err

pub returns-in-Err-clause-err : goal.returns-in-Err-clause-err
returns-in-Err-clause-err c = c.in-Err.ensures.err
