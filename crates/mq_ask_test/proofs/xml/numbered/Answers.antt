use Rattle.std.proofs.Common.{ap, sym}
use Rattle.std.specs.Fmt.{digits}
use Rattle.mq_ask_test.specs.Junit.{numbered}
use Rattle.mq_ask_test.proofs.xml.numbered.Goals as goal

pub returns-in-10 : goal.returns-in-10
unfolding digits
returns-in-10 c = sym (ap numbered c.in-10.is)

pub returns-in-9 : goal.returns-in-9
unfolding digits
returns-in-9 c = sym (ap numbered c.in-9.is)

pub returns-in-13 : goal.returns-in-13
unfolding digits
returns-in-13 c = sym (ap numbered c.in-13.is)
