use Rattle.std.proofs.Common.{ap, bytes_eq, sym, ◌∙◌}
use Rattle.std.specs.List.{list_any}
use Rattle.mq_ask_test.specs.Files.{texts}
use Rattle.mq_ask_test.proofs.FileLemmas.{added_new}
use Rattle.mq_ask_test.proofs.files.add.Goals as goal

pub returns : goal.returns
returns c = ap texts c.in_ok-push.ensures.items ∙ added_new c.args.files.now.items c.args.file
    (ap (list_any (λ other. bytes_eq c.args.file.now other.now)) (sym c.deref.ensures.value)
    ∙ sym c.has_file.ensures ∙ c.if-has_file.false)
