-- Whether lists are as a file of expectations says.
use Rattle.std.specs.Prelude.{List}
use Rattle.mq_acl.specs.declared.rules.Rules.{Rules}
use Rattle.mq_ask.specs.declared.outcome.Outcome.{Outcome}
use Rattle.mq_ask.specs.declared.outcome.Outcome.TheVariants.{Clear, Remark}
use Rattle.mq_ask_test.specs.Findings.{AllHold, SomeFails}
use Rattle.mq_ask_test.specs.Questions.{Question}
use Rattle.mq_ask_test.specs.declared.list.ReadList.{ReadList}

-- each line that asks something holds; or one doesn't
abbrev pub ShowsTested : Rules → List ReadList → List Question → Outcome → Type 0
ShowsTested rules lists all Clear = AllHold rules lists all
ShowsTested rules lists all Remark = SomeFails rules lists all
