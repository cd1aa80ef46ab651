-- Exit statuses.
use Rattle.std.specs.Prelude.{ℕ}
use Rattle.mq_ask.specs.declared.failure.Failure.{Failure}
use Rattle.mq_ask.specs.declared.failure.Failure.TheVariants as failure
use Rattle.mq_ask.specs.declared.outcome.Outcome.{Outcome}
use Rattle.mq_ask.specs.declared.outcome.Outcome.TheVariants.{Clear, Remark}

abbrev pub outcome_status : Outcome → ℕ
outcome_status Clear = 0
outcome_status Remark = 1

-- what both come to
abbrev pub worse : Outcome → Outcome → Outcome
worse Clear other = other
worse Remark other = Remark

abbrev pub failure_status : Failure → ℕ
failure_status failure.Write = 3
failure_status failure.Memory = 3
failure_status (failure.Read file error) = 2
failure_status (failure.TooLong file) = 2
failure_status (failure.Utf8 file line) = 2
failure_status (failure.Line file line words) = 2
failure_status (failure.Foreign file what) = 2
failure_status (failure.NotTaken file line words) = 2
failure_status (failure.Linted file) = 2
failure_status (failure.Long file line) = 2
failure_status (failure.Mark file line) = 2
failure_status failure.LongPattern = 2
failure_status failure.LongWord = 2
failure_status (failure.GaveUp file line others) = 2
failure_status (failure.FilterMark text) = 2
failure_status (failure.FilterGaveUp file others) = 2
failure_status (failure.TestGaveUp file line list row others) = 2
failure_status (failure.TestFilterGaveUp file line list others) = 2
failure_status (failure.NoExpectation file) = 2
failure_status (failure.Question file line words) = 2
failure_status (failure.OfNamed text) = 2
failure_status (failure.NoUser file user) = 2
failure_status failure.NoClient = 2
failure_status (failure.PlanGaveUp file) = 2
failure_status failure.PlanRules = 2
failure_status (failure.Overwritten file) = 2
failure_status (failure.Unwritten file error) = 3
failure_status (failure.Topic text) = 2
failure_status (failure.Filter text) = 2
failure_status (failure.LongScript file) = 2
failure_status (failure.LongSubscription file line) = 2
failure_status (failure.NoCommand file lines) = 2
failure_status (failure.Log file lines) = 2
