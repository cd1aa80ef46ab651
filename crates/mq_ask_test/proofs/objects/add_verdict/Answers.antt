use Rattle.std.proofs.Common.{◌∙◌, string_bytes}
use Rattle.std.specs.Option.{option_copied}
use Rattle.std.proofs.lemmas.Result.{on_ok_weaker}
use Rattle.mq_ask_test.proofs.ObjectLemmas.{verdict_is}
use Rattle.mq_print.specs.Lists.{lines_view}
use Rattle.mq_ask_test.proofs.objects.add_verdict.Goals as goal

pub returns : goal.returns
returns c =
    on_ok_weaker c.add_one.result
    (λ is. (
      option_copied c.as_deref.result,
      verdict_is c.args.lists.now (lines_view c.args.expectations) c.args.verdict.now
          _ (option_copied c.as_deref.result) (string_bytes c.args.text.now)
          (string_bytes c.add_one.new.text)
          (c.shown_in-shown.ensures ∙ c.case_of.ensures) is,
    ))
    c.add_one.ensures
