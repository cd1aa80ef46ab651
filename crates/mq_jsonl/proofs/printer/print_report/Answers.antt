use Rattle.std.proofs.Common.{◌∙◌}
use Rattle.mq_jsonl.specs.Printed.{report_of}
use Rattle.mq_jsonl.proofs.ObjectLemmas.{report_fits}
use Rattle.mq_jsonl.proofs.printer.print_report.Goals as goal

pub returns-clause-kept : goal.returns-clause-kept
returns-clause-kept c = report_fits c.args.line (report_of c.args.report) _
    (c.print.ensures.same ∙ c.in-Ok.ensures)
