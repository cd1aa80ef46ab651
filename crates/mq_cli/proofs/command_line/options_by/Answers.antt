use Rattle.std.proofs.Common.{◌∙◌, ap, sym, codes}
use Rattle.std.specs.Prelude.{option_and_then}
use Rattle.clap.specs.Words.{first_of, one_of, found_of}
use Rattle.clap.proofs.WalkLemmas.{first_value-rows, one_text-rows}
use Rattle.mq_args.specs.Numbers.{number_in}
use Rattle.mq_args.proofs.NumberLemmas.{number-given}
use Rattle.mq_cli.proofs.FlagLemmas.{flag-given}
use Rattle.mq_cli.proofs.command_line.options_by.Goals as goal

pub returns-clause-ok : goal.returns-clause-ok
returns-clause-ok c = λ words rows asked.
    let found = found_of c.args.matches.now in
    record {
      acl_file = c.in_ok-acl_file.ensures ∙ c.get_str.ensures
          ∙ first_value-rows found (codes "acl-file") ∙ ap (first_of (codes "acl-file")) rows;
      rules = asked;
      max_retained = number-given _ c.get_one.result c.get_one.ensures.none c.get_one.ensures.value
          ∙ ap (option_and_then number_in) (one_text-rows found (codes "max-retained")
          ∙ ap (one_of (codes "max-retained")) rows);
      max_queued = number-given _ c.get_one-2.result c.get_one-2.ensures.none
          c.get_one-2.ensures.value
          ∙ ap (option_and_then number_in) (one_text-rows found (codes "max-queued")
          ∙ ap (one_of (codes "max-queued")) rows);
      unbuffered =
          let read = one_text-rows found (codes "unbuffered")
          ∙ ap (one_of (codes "unbuffered")) rows in
          rw (c.unwrap_or.ensures, sym read)
          (flag-given _ _ c.get_one-3.result c.get_one-3.ensures.none c.get_one-3.ensures.value);
      script = c.in_ok-script.ensures ∙ c.get_str-2.ensures
          ∙ first_value-rows found (codes "script") ∙ ap (first_of (codes "script")) rows;
    }
