use Rattle.std.proofs.Common.{◌∙◌}
use Rattle.mq_jsonl.proofs.ObjectLemmas.{reason_fits}
use Rattle.mq_jsonl.proofs.printer.print_reason.Goals as goal

pub returns-clause-kept : goal.returns-clause-kept
returns-clause-kept c = reason_fits c.args.line c.args.reason _
    (c.print.ensures.same ∙ c.in-Ok.ensures)
