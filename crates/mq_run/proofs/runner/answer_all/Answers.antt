use Rattle.std.proofs.Common.{[], arith}
use Rattle.std.proofs.lemmas.Result.{err_from_is_err_and}
use Rattle.mq_run.specs.Running.{TakesBytes, EndsLines, StopsLast}
use Rattle.mq_run.proofs.RunLemmas.{Ending-last}
use Rattle.mq_run.proofs.runner.answer_all.Goals as goal

pub returns-in_err-read_lines-clause-ending : goal.returns-in_err-read_lines-clause-ending
returns-in_err-read_lines-clause-ending g c = λ w s.
    let fault = err_from_is_err_and c.from_residual.result c.from_residual.ensures.1 in
    rw (fault.1, fault.2) (c.in_err-read_lines.ensures.err w s)

pub returns-in_err-finish-clause-ending : goal.returns-in_err-finish-clause-ending
unfolding TakesBytes StopsLast
returns-in_err-finish-clause-ending g c = λ w s.
    let a = g.W.Sink.taken c.args.writer.now in
    let all = c.in_ok-read_lines.ensures.ok in
    let so_far = all.2.taken w [] a s in
    let last = c.in_err-finish.ensures.ends w all.0 a so_far in
    let read = c.in_ok-read_lines.ensures.ok_count in
    let finished = c.in_err-finish.ensures.counted in
    let fault = err_from_is_err_and c.from_residual-in_err-finish.result
    c.from_residual-in_err-finish.ensures.1 in
    rw (fault.1, fault.2) (
      all.0,
      all.1,
      Ending-last c.args.options.limit w _ _ all.2.ended last read.0 (let written = read.1 in omega arith),
    )

pub returns-clause-ending : goal.returns-clause-ending
unfolding TakesBytes EndsLines
returns-clause-ending g c = λ w s.
    let a = g.W.Sink.taken c.args.writer.now in
    let all = c.in_ok-read_lines.ensures.ok in
    let so_far = all.2.taken w [] a s in
    let done = c.in_ok-finish.ensures.ends w all.0 a so_far in
    let read = c.in_ok-read_lines.ensures.ok_count in
    let finished = c.in_ok-finish.ensures.counted in (
      all.0,
      all.1,
      record {
        ended = all.2.ended;
        within = all.2.within;
        written = done.written;
        summary = record { lines = done.lines; refused = done.refused };
        reader = read.0;
        writer = let written = read.1 in omega arith;
      },
    )

-- ## What was handed on

pub returns-clause-flushed : goal.returns-clause-flushed
returns-clause-flushed g c = c.in_ok-finish.ensures.flushed

pub returns-clause-unbuffered : goal.returns-clause-unbuffered
returns-clause-unbuffered g c = λ _ failed. absurd (failed c.in_ok-read_lines.ensures.ok_count.0)

pub returns-in_err-finish-clause-flushed : goal.returns-in_err-finish-clause-flushed
returns-in_err-finish-clause-flushed g c =
    let fault = err_from_is_err_and c.from_residual-in_err-finish.result
    c.from_residual-in_err-finish.ensures.1 in
    rw (fault.1) tt

pub returns-in_err-finish-clause-unbuffered : goal.returns-in_err-finish-clause-unbuffered
returns-in_err-finish-clause-unbuffered g c =
    λ _ failed. absurd (failed c.in_ok-read_lines.ensures.ok_count.0)

pub returns-in_err-read_lines-clause-flushed : goal.returns-in_err-read_lines-clause-flushed
returns-in_err-read_lines-clause-flushed g c =
    let fault = err_from_is_err_and c.from_residual.result c.from_residual.ensures.1 in
    rw (fault.1) tt

pub returns-in_err-read_lines-clause-unbuffered : goal.returns-in_err-read_lines-clause-unbuffered
returns-in_err-read_lines-clause-unbuffered g c = c.in_err-read_lines.ensures.unbuffered
