use Rattle.std.proofs.Common.{map, string_bytes}
use Rattle.std.proofs.lemmas.Result.{IfOk-weaker}
use Rattle.mq_cli.specs.CommandLine.{faults_in}
use Rattle.mq_cli.proofs.ProgramLemmas.{IfErr-map}
use Rattle.mq_cli.proofs.RulesLemmas.{OnOk-given, has_fault}
use Rattle.mq_cli.proofs.command_line.arguments.Goals as goal

pub returns-in-Ok-clause-ok : goal.returns-in-Ok-clause-ok
returns-in-Ok-clause-ok c =
    IfOk-weaker c.options_in.result _ _
    (λ options is. is (map string_bytes c.args.words.now) c.in-Ok.ensures.rows)
    c.options_in.ensures.ok

pub returns-in-Ok-clause-no_fault : goal.returns-in-Ok-clause-no_fault
returns-in-Ok-clause-no_fault c =
    OnOk-given c.options_in.result (map string_bytes c.args.words.now) c.in-Ok.ensures.kinds
    (IfOk-weaker c.options_in.result _ _
    (λ options is. is (map string_bytes c.args.words.now) c.in-Ok.ensures.rows)
    c.options_in.ensures.ok)

pub returns-in-Ok-clause-err : goal.returns-in-Ok-clause-err
returns-in-Ok-clause-err c =
    IfErr-map c.options_in.result _ _
    (λ fault is. is (map string_bytes c.args.words.now) c.in-Ok.ensures.rows c.in-Ok.ensures.kinds)
    c.options_in.ensures.err

pub returns-in-Err-clause-err : goal.returns-in-Err-clause-err
returns-in-Err-clause-err c =
    let words = map string_bytes c.args.words.now in
    c.of.ensures (faults_in words) (has_fault words c.in-Err.error c.in-Err.ensures.kinds)
