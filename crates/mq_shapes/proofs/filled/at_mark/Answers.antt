use Rattle.std.proofs.Common.{None, arith}
use Rattle.std.proofs.lemmas.Str.Pattern.{strip_prefix_char}
use Rattle.mq_shapes.proofs.FilledLemmas.{percent_stays}
use Rattle.mq_shapes.proofs.filled.at_mark.Goals as goal

pub returns-in-None-None-clause-made : goal.returns-in-None-None-clause-made
returns-in-None-None-clause-made c =
    percent_stays c.args.names.client.now c.args.names.user.now c.args.behind.now
    (strip_prefix_char 99 c.args.behind.now None c.in-None-None.ensures.cases (omega arith))
    (strip_prefix_char 117 c.args.behind.now None c.in-None-None.ensures'.cases (omega arith))
