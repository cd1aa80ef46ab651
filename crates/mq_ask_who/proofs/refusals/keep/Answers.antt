use Rattle.std.proofs.Common.{arith}
use Rattle.std.proofs.lemmas.Grind.{text_groups}
use Rattle.mq_ask_who.proofs.refusals.keep.Goals as goal

pub returns : goal.returns
returns c = λ text. grind (arith, text_groups)
