use Rattle.std.proofs.Common.{◌≡◌, ◌++◌, ◌+◌, [], ℕ, List, take, length, refl, ap, arith}
use Rattle.std.proofs.Common.{rules, length-take-le, sym, ◌∙◌}
use Rattle.std.proofs.lemmas.Result.{err_from_is_err_and}
use Rattle.std.proofs.KnownBytes.{Consumes-nil, Consumes-trans, Consumes-kept}
use Rattle.mq_jsonl.specs.Feeding.{open_line}
use Rattle.mq_jsonl.proofs.FeedLemmas.{counted_more, lines_more}
use Rattle.mq_run.specs.Running.{TakesBytes, StopsAmong}
use Rattle.mq_run.proofs.RunLemmas.{Ending-stopped, Stopped-flush, Stopped-front}
use Rattle.mq_run.proofs.RunLemmas.{limit_over, over_take, room_within}
use Rattle.mq_run.proofs.StepLemmas.{StopsAmong-next, TakesBytes-kept, TakesBytes-next}
use Rattle.mq_run.proofs.StepLemmas.{TakesBytes-none}
use Rattle.mq_run.proofs.runner.read_lines.Goals as goal

pub reads-init : goal.reads-init
reads-init g c =
    let room = c.requires.room in
    record {
      lines =
          let lines = c.requires.lines in
          let none : length (open_line c.args.progress.now.feeder) ≡ 0 =
          ap length c.requires.line in
          omega arith;
      reader = refl;
      writer = refl;
      takes = ([], Consumes-nil _, omega arith, TakesBytes-none _ _);
    }

pub reads-preserved : goal.reads-preserved
reads-preserved g c =
    let so_far = c.reads.invariant.takes in
    let so_taken = TakesBytes-kept _ _ _ _ _ _ so_far.3 c.in_ok-before_read.ensures.kept in
    let given : List ℕ = so_far.0 in
    let n : ℕ = c.in-Ok.n in
    let more : List ℕ = take n c.read.new.buf in
    let read = c.in-Ok.ensures.bytes in
    let part : length more ≡ n = length-take-le n c.read.new.buf c.in-Ok.ensures.bound in
    let room : ℕ = c.reads.progress.feeder.room in
    let left : ℕ = c.take-in-reads.new.self.feeder.room in
    let less : left + n ≡ room =
    ap (λ (k : ℕ). k + n) c.in_ok-take-2.ensures.room
    ∙ c.admit.ensures.within c.if-not-admit.false in
    record {
      lines = lines_more c.reads.progress.summary.lines (length (open_line c.admit.new.self))
          (length (open_line c.reads.progress.feeder))
          (length (open_line c.take-in-reads.new.self.feeder))
          c.take-in-reads.new.self.summary.lines n room left c.args.options.limit
          c.reads.invariant.lines (ap length c.admit.ensures.line)
          (rw (sym part) c.in_ok-take-2.ensures.lines) less;
      reader = let counted = c.in-Ok.ensures.counted in omega arith;
      writer = let counted = c.in_ok-take-2.ensures.counted in let flushed =
          c.in_ok-before_read.ensures.counted in omega arith;
      takes = (
        given ++ more,
        Consumes-trans _ (g.R.Source.to_come c.reads.reader) _ given more so_far.1 read.0,
        counted_more given more n room left c.args.options.limit so_far.2 part less,
        TakesBytes-next c.args.progress.now c.reads.progress _ c.take-in-reads.new.self given more
            _ _ _ c.in_ok-take-2.ensures.takes (record { router = refl; summary = refl })
            c.admit.ensures.line so_taken,
      );
    }

pub returns-in_err-before_read-clause-err : goal.returns-in_err-before_read-clause-err
unfolding TakesBytes
returns-in_err-before_read-clause-err g c = λ w start.
    let so_far = c.reads.invariant.takes in
    let a = g.W.Sink.taken c.args.writer.now in
    let now = so_far.3 w [] a start in
    let fault = err_from_is_err_and c.from_residual.result c.from_residual.ensures.1 in
    let stopped = Stopped-flush a _ _ w so_far.0 _ now.answered.written
    c.in_err-before_read.ensures.kept c.in_err-before_read.ensures.kind in
    rw (fault.1, fault.2) (
      so_far.0,
      so_far.1,
      Ending-stopped c.args.options.limit w _ _ stopped c.reads.invariant.reader
          (let k = c.in_err-before_read.ensures.counted in omega arith),
    )

pub returns-then-n-eq0-clause-ok : goal.returns-then-n-eq0-clause-ok
returns-then-n-eq0-clause-ok g c =
    let so_far = c.reads.invariant.takes in
    let so_taken = TakesBytes-kept _ _ _ _ _ _ so_far.3 c.in_ok-before_read.ensures.kept in
    search rules

pub returns-in-Err-clause-err : goal.returns-in-Err-clause-err
unfolding TakesBytes
returns-in-Err-clause-err g c = λ w start.
    let so_far = c.reads.invariant.takes in
    let so_taken = TakesBytes-kept _ _ _ _ _ _ so_far.3 c.in_ok-before_read.ensures.kept in
    let now = so_taken w [] (g.W.Sink.taken c.args.writer.now) start in (
      so_far.0,
      Consumes-kept _ (g.R.Source.to_come c.reads.reader) _ so_far.0 so_far.1
          c.in-Err.ensures.bytes,
      record {
        written = now.answered.written;
        reader = let counted = c.in-Err.ensures.counted in omega arith;
        writer = let flushed = c.in_ok-before_read.ensures.counted in omega arith;
      },
    )

pub returns-in-Err-clause-unbuffered : goal.returns-in-Err-clause-unbuffered
returns-in-Err-clause-unbuffered g c = λ unbuffered failed.
    c.in_ok-before_read.ensures.flushed unbuffered

pub returns-then-not-admit-clause-err : goal.returns-then-not-admit-clause-err
unfolding TakesBytes
returns-then-not-admit-clause-err g c = λ w start.
    let so_far = c.reads.invariant.takes in
    let so_taken = TakesBytes-kept _ _ _ _ _ _ so_far.3 c.in_ok-before_read.ensures.kept in
    let given : List ℕ = so_far.0 in
    let n : ℕ = c.in-Ok.n in
    let buf : List ℕ = c.read.new.buf in
    let read = c.in-Ok.ensures.bytes in
    let a = g.W.Sink.taken c.args.writer.now in
    let now = TakesBytes-next c.args.progress.now c.reads.progress _ _ given _ a _ _
    c.in_ok-take.ensures.takes (record { router = refl; summary = refl }) c.admit.ensures.line
    so_taken w [] a start in
    let less = c.admit.ensures.over c.if-not-admit.true in
    let is : c.room-room.result ≡ c.reads.progress.feeder.room = c.room-room.ensures ∙ less.1 in
    let all : length given + c.room-room.result ≡ c.args.options.limit =
    ap (λ (k : ℕ). length given + k) is ∙ so_far.2 in
    let front = over_take given buf c.args.options.limit c.room-room.result n all
    (room_within _ _ n is less.0) in (
      given ++ take n buf,
      Consumes-trans _ (g.R.Source.to_come c.reads.reader) _ given (take n buf) so_far.1 read.0,
      record {
        over = limit_over given (take n buf) n _ _ so_far.2
            (length-take-le n buf c.in-Ok.ensures.bound) less.0;
        written = rw front now.answered.written;
        reader = let k = c.in-Ok.ensures.counted in omega arith;
        writer = let k = c.in_ok-take.ensures.counted in let flushed =
            c.in_ok-before_read.ensures.counted in omega arith;
      },
    )

pub returns-in_err-take-clause-err : goal.returns-in_err-take-clause-err
unfolding TakesBytes StopsAmong
returns-in_err-take-clause-err g c = λ w start.
    let so_far = c.reads.invariant.takes in
    let so_taken = TakesBytes-kept _ _ _ _ _ _ so_far.3 c.in_ok-before_read.ensures.kept in
    let given : List ℕ = so_far.0 in
    let n : ℕ = c.in-Ok.n in
    let buf : List ℕ = c.read.new.buf in
    let read = c.in-Ok.ensures.bytes in
    let a = g.W.Sink.taken c.args.writer.now in
    let now = StopsAmong-next c.args.progress.now c.reads.progress _ given _ _ a _ _
    c.in_err-take.ensures.takes (record { router = refl; summary = refl }) c.admit.ensures.line
    so_taken w [] a start in
    let less = c.admit.ensures.over c.if-not-admit.true in
    let is : c.room-room.result ≡ c.reads.progress.feeder.room = c.room-room.ensures ∙ less.1 in
    let fault = err_from_is_err_and c.from_residual-in_err-take.result
    c.from_residual-in_err-take.ensures.1 in
    rw (fault.1, fault.2) (
      given ++ take n buf,
      Consumes-trans _ (g.R.Source.to_come c.reads.reader) _ given (take n buf) so_far.1 read.0,
      Ending-stopped c.args.options.limit w _ _
          (Stopped-front a _ w given buf c.room-room.result n _ (room_within _ _ n is less.0) now)
          (let k = c.in-Ok.ensures.counted in omega arith)
          (let k = c.in_err-take.ensures.counted in let flushed =
          c.in_ok-before_read.ensures.counted in omega arith),
    )

pub returns-in_err-take-2-clause-err : goal.returns-in_err-take-2-clause-err
unfolding TakesBytes StopsAmong
returns-in_err-take-2-clause-err g c = λ w start.
    let so_far = c.reads.invariant.takes in
    let so_taken = TakesBytes-kept _ _ _ _ _ _ so_far.3 c.in_ok-before_read.ensures.kept in
    let given : List ℕ = so_far.0 in
    let n : ℕ = c.in-Ok.n in
    let buf : List ℕ = c.read.new.buf in
    let read = c.in-Ok.ensures.bytes in
    let a = g.W.Sink.taken c.args.writer.now in
    let now = StopsAmong-next c.args.progress.now c.reads.progress _ given _ _ a _ _
    c.in_err-take-2.ensures.takes (record { router = refl; summary = refl }) c.admit.ensures.line
    so_taken w [] a start in
    let fault = err_from_is_err_and c.from_residual-in_err-take-2.result
    c.from_residual-in_err-take-2.ensures.1 in
    rw (fault.1, fault.2) (
      given ++ take n buf,
      Consumes-trans _ (g.R.Source.to_come c.reads.reader) _ given (take n buf) so_far.1 read.0,
      Ending-stopped c.args.options.limit w _ _ now
          (let k = c.in-Ok.ensures.counted in omega arith)
          (let k = c.in_err-take-2.ensures.counted in let flushed =
          c.in_ok-before_read.ensures.counted in omega arith),
    )

pub returns-then-n-eq0-clause-err : goal.returns-then-n-eq0-clause-err
returns-then-n-eq0-clause-err g c = search rules
