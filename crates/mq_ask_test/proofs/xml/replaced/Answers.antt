use Rattle.std.proofs.Common.{rules}
use Rattle.mq_ask_test.proofs.xml.replaced.Goals as goal

pub returns-then-has_no_place : goal.returns-then-has_no_place
unfolding lib.Utf8.encode
returns-then-has_no_place c = search rules
