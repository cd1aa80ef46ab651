use Rattle.std.proofs.Common.{rules}
use Rattle.mq_jsonl.proofs.printer.line_fault_report.Goals as goal

pub returns-in-BadField : goal.returns-in-BadField
returns-in-BadField c = search rules
