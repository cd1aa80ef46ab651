use Rattle.std.proofs.Common.{◌∙◌, ap, sym, codes}
use Rattle.std.proofs.lemmas.Result.{IfOk-weaker}
use Rattle.clap.specs.Words.{first_of, found_of}
use Rattle.clap.proofs.WalkLemmas.{first_value-rows}
use Rattle.mq_cli.specs.CommandLine.{faults_in}
use Rattle.mq_cli.proofs.ProgramLemmas.{IfErr-map}
use Rattle.mq_cli.proofs.RulesLemmas.{is_unknown, own_asked, word_asked}
use Rattle.mq_cli.proofs.command_line.rules_in.Goals as goal

pub returns-in-None-clause-ok : goal.returns-in-None-clause-ok
returns-in-None-clause-ok c = λ words rows.
    own_asked words (sym (c.in-None.ensures
    ∙ first_value-rows (found_of c.args.matches.now) (codes "rules")
    ∙ ap (first_of (codes "rules")) rows))

pub returns-in-Some-clause-ok : goal.returns-in-Some-clause-ok
returns-in-Some-clause-ok c =
    IfOk-weaker c.rules_of.result _ _
    (λ rules named words rows. named ∙ word_asked words c.in-Some.word.now
    (sym (c.in-Some.ensures ∙ first_value-rows (found_of c.args.matches.now) (codes "rules")
    ∙ ap (first_of (codes "rules")) rows)))
    c.rules_of.ensures.ok

pub returns-in-Some-clause-err : goal.returns-in-Some-clause-err
returns-in-Some-clause-err c =
    IfErr-map c.rules_of.result _ _
    (λ fault is words rows taken. is.1 (faults_in words) (is_unknown words c.in-Some.word.now
    (sym (c.in-Some.ensures ∙ first_value-rows (found_of c.args.matches.now) (codes "rules")
    ∙ ap (first_of (codes "rules")) rows)) is.0 taken))
    c.rules_of.ensures.err
