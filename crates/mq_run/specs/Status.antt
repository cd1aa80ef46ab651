-- The exit status of the program.
use Rattle.std.specs.Prelude.{ℕ, ◌==◌, if◌then◌else◌, Result, Ok, Err}
use Rattle.mq_run.specs.declared.outcome.Summary.{Summary}
use Rattle.mq_run.specs.declared.outcome.RunFault.{RunFault}

-- 0 where every line was accepted, 1 where one was refused, 3 where the run failed
abbrev pub status_of : Result Summary RunFault → ℕ
status_of (Ok summary) = if summary.refused == 0 then 0 else 1
status_of (Err fault) = 3
