use Rattle.std.proofs.Common.{arith}
use Rattle.std.proofs.lemmas.Grind.{text_groups}
use Rattle.mq_acl.proofs.by_owner.add_named.Goals as goal

pub returns : goal.returns
returns c = λ user. grind (arith, text_groups)
