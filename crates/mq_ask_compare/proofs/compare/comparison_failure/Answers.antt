use Rattle.std.proofs.Common.{rules}
use Rattle.mq_ask_compare.proofs.compare.comparison_failure.Goals as goal

pub returns-in-NewLine : goal.returns-in-NewLine
returns-in-NewLine c = search rules
