use Rattle.std.proofs.Common.{ap, fold, sym, ◌∙◌}
use Rattle.std.specs.Option.{option_to_list}
use Rattle.mq_expect.specs.Files.{says_view}
use Rattle.mq_ask_test.specs.Files.{added, file_named, texts}
use Rattle.mq_ask_test.proofs.FileLemmas.{named_more}
use Rattle.mq_ask_test.proofs.files.add_named.Goals as goal

pub loop-line-preserved : goal.loop-line-preserved
loop-line-preserved c = c.in_ok-add_line.ensures
    ∙ ap (λ files. fold added files
    (option_to_list (file_named c.args.given (says_view c.line-item.result.says)))) c.loop-line.invariant
    ∙ sym (named_more c.args.given (texts c.args.files.now.items) c.args.expectations.now
    c.loop-line.line-index c.line-item.result c.loop-line-test.true c.line-item.is)
