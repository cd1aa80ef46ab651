use Rattle.std.proofs.Common.{◌∙◌, ap, codes}
use Rattle.std.specs.Prelude.{option_and_then}
use Rattle.clap.specs.Words.{found_of}
use Rattle.clap.proofs.WalkLemmas.{one_text-rows}
use Rattle.mq_args.specs.Numbers.{number_in}
use Rattle.mq_args.proofs.NumberLemmas.{number-given}
use Rattle.mq_acl_args.specs.CommandLine.{steps_or_usual}
use Rattle.mq_acl_args.proofs.CommandLineLemmas.{steps-unless}
use Rattle.mq_acl_args.proofs.request.steps_in.Goals as goal

pub returns : goal.returns
returns c =
    let given = number-given _ c.get_one.result c.get_one.ensures.none c.get_one.ensures.value
    ∙ ap (option_and_then number_in) (one_text-rows (found_of c.args.matches.now) (codes "steps"))
    in
    c.from.ensures ∙ c.unwrap_or.ensures ∙ steps-unless c.get_one.result ∙ ap steps_or_usual given
