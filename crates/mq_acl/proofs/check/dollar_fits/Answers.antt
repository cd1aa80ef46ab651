use Rattle.std.proofs.Common.{rules}
use Rattle.mq_acl.proofs.check.dollar_fits.Goals as goal

pub returns-else-not-starts_with : goal.returns-else-not-starts_with
returns-else-not-starts_with c = search rules
