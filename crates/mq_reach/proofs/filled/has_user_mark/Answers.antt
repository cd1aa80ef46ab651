use Rattle.std.proofs.Common.{codes, arith}
use Rattle.std.proofs.lemmas.Str.Pattern.{contains_text}
use Rattle.mq_acl.proofs.WordLemmas.{occurs_is}
use Rattle.mq_reach.proofs.filled.has_user_mark.Goals as goal

pub returns : goal.returns
returns c = occurs_is c.contains.result (codes "%u") c.args.filter.now (omega arith)
    (contains_text c.contains.result (codes "%u") c.args.filter.now c.contains.ensures.cases)
