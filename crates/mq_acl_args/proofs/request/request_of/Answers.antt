use Rattle.std.proofs.Common.{◌∙◌, Option, ap, codes, sym}
use Rattle.std.specs.Prelude.{unwrap_or}
use Rattle.clap.specs.Words.{found_of, rows_of}
use Rattle.clap.proofs.WalkLemmas.{one_text-rows}
use Rattle.mq_acl.specs.declared.rules.Rules.{Rules}
use Rattle.mq_acl.specs.declared.rules.Rules.TheVariants.{Mosquitto}
use Rattle.mq_acl_args.specs.CommandLine.{asked, asked_by_known}
use Rattle.mq_acl_args.proofs.request.request_of.Goals as goal

pub returns-in-Some-2 : goal.returns-in-Some-2
returns-in-Some-2 c =
    let read = one_text-rows (found_of c.args.matches.now) (codes "json") in
    let known = sym c.rules_in.ensures ∙ c.in-Some.is in
    let about = asked c.args.name.now (rows_of (found_of c.args.matches.now)) in
    record {
      question = ap (λ (rules : Option Rules). asked_by_known rules about) known
          ∙ sym (rw c.in-Some-2.is at c.in_ok-question.ensures);
      json = λ e. c.get_flag.ensures.value (read ∙ e);
      no_json = λ e. c.get_flag.ensures.other (read ∙ e);
      steps = c.steps_in.ensures;
      rules = sym (ap (λ (rules : Option Rules). unwrap_or rules Mosquitto) known);
    }

pub returns-in-None : goal.returns-in-None
returns-in-None c =
    let known = sym c.rules_in.ensures ∙ c.in-Some.is in
    let about = asked c.args.name.now (rows_of (found_of c.args.matches.now)) in
    ap (λ (rules : Option Rules). asked_by_known rules about) known
    ∙ sym (rw c.in-None.is at c.in_ok-question.ensures)

pub returns-in_default : goal.returns-in_default
returns-in_default c =
    let about = asked c.args.name.now (rows_of (found_of c.args.matches.now)) in
    ap (λ (rules : Option Rules). asked_by_known rules about)
    (sym c.rules_in.ensures ∙ c.in_default.is)
