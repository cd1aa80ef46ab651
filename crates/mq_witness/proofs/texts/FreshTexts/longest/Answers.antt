use Rattle.std.proofs.Common.{codes}
use Rattle.mq_witness.proofs.FreshLemmas.{long_is_new}
use Rattle.mq_witness.proofs.texts.FreshTexts.longest.Goals as goal

pub returns : goal.returns
returns c = λ named. record {
  plain = long_is_new (codes "x") _ c.in_ok-longest_text.ensures named;
  dollar = long_is_new (codes "$x") _ c.in_ok-longest_text-2.ensures named;
  client = long_is_new (codes "client") _ c.in_ok-longest_text-3.ensures named;
  user = long_is_new (codes "user") _ c.in_ok-longest_text-4.ensures named;
}
