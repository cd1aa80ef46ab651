use Rattle.std.proofs.Common.{refl}
use Rattle.mq_reach.proofs.SearchLemmas.{IsFound-shown}
use Rattle.mq_reach.proofs.search.Search.findings.Goals as goal

pub returns : goal.returns
returns c = λ list lines is. IsFound-shown list lines c.args.self _ is c.in_ok-unreached.ensures
    refl
