use Rattle.std.proofs.Common.{rules}
use Rattle.mq_lint.proofs.blanks.is_tabbed.Goals as goal

pub returns-else-begins_with_tab : goal.returns-else-begins_with_tab
returns-else-begins_with_tab c = search rules
