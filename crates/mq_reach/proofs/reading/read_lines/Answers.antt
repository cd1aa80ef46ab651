use Rattle.std.proofs.Common.{◌≡◌, ◌++◌, ◌+◌, ◌<◌, [], ℕ, List, take, length, ap}
use Rattle.std.proofs.Common.{append-nil, arith, length-append, length-take-le, sym, ◌∙◌}
use Rattle.std.proofs.KnownBytes.{Consumes-nil, Consumes-trans}
use Rattle.std.proofs.lemmas.Result.{err_from_is_err_and}
use Rattle.mq_jsonl.specs.Feeding.{open_line, script_limit}
use Rattle.mq_jsonl.proofs.FeedLemmas.{counted_more, lines_more}
use Rattle.mq_reach.specs.declared.reading.Reading.{Reading}
use Rattle.mq_reach.proofs.FaultLemmas.{FailsIn-more}
use Rattle.mq_reach.proofs.ScriptLemmas.{TakesBytes-fed, TakesBytes-none, TakesBytes-then, too_long}
use Rattle.mq_reach.proofs.reading.read_lines.Goals as goal

pub reads-init : goal.reads-init
unfolding script_limit
reads-init g c =
    let room = c.requires.room in
    record {
      lines =
          let lines = c.requires.lines in
          let none : length (open_line c.args.reading.now.feeder) ≡ 0 = ap length c.requires.line in
          omega arith;
      takes = (
        [],
        Consumes-nil _,
        omega arith,
        TakesBytes-none c.args.list.now c.args.reading.now,
      );
    }

pub reads-preserved : goal.reads-preserved
reads-preserved g c =
    let so_far = c.reads.invariant.takes in
    let given : List ℕ = so_far.0 in
    let n : ℕ = c.in-Ok.n in
    let more : List ℕ = take n c.read.new.buf in
    let part : length more ≡ n = length-take-le n c.read.new.buf c.in-Ok.ensures.bound.0 in
    let fed : Reading = record c.reads.reading { feeder = c.admit.new.self } in
    let room : ℕ = c.reads.reading.feeder.room in
    let left : ℕ = c.take.new.reading.feeder.room in
    let less : left + n ≡ room =
    ap (λ (k : ℕ). k + n) c.in_ok-take.ensures.room
    ∙ c.admit.ensures.within c.if-not-admit.false in
    record {
      lines = lines_more c.reads.reading.search.counts.lines (length (open_line c.admit.new.self))
          (length (open_line c.reads.reading.feeder))
          (length (open_line c.take.new.reading.feeder)) c.take.new.reading.search.counts.lines n
          room left 4294967296 c.reads.invariant.lines (ap length c.admit.ensures.line)
          (rw (sym part) c.in_ok-take.ensures.lines) less;
      takes = (
        given ++ more,
        Consumes-trans _ (g.R.Read.remaining c.reads.reader) _ given more so_far.1
            c.in-Ok.ensures.bytes.0,
        counted_more given more n room left 4294967296 so_far.2 part less,
        TakesBytes-then c.args.list.now c.args.reading.now fed c.take.new.reading given more
            (TakesBytes-fed c.args.list.now c.args.reading.now c.reads.reading c.admit.new.self
            given c.admit.ensures.line so_far.3)
            c.in_ok-take.ensures.takes,
      );
    }

pub returns-then-n-eq0-clause-lines : goal.returns-then-n-eq0-clause-lines
unfolding script_limit
returns-then-n-eq0-clause-lines g c = let lines = c.reads.invariant.lines in omega arith

pub returns-then-not-admit-clause-err : goal.returns-then-not-admit-clause-err
unfolding script_limit
returns-then-not-admit-clause-err g c =
    let so_far = c.reads.invariant.takes in
    let given : List ℕ = so_far.0 in
    let len = so_far.2 in
    let n : ℕ = c.in-Ok.n in
    let buf : List ℕ = c.read.new.buf in
    let read = c.in-Ok.ensures.bytes in
    let part : length (take n buf) ≡ n = length-take-le n buf c.in-Ok.ensures.bound.0 in
    let grown : length (given ++ take n buf) ≡ length given + n = rw length-append (omega arith) in
    let less = (c.admit.ensures.over c.if-not-admit.true).0 in
    let over : 4294967296 < length (given ++ take n buf) = omega arith in
    too_long _ _ 4294967296 (given ++ take n buf)
    (Consumes-trans _ (g.R.Read.remaining c.reads.reader) _ given (take n buf) so_far.1 read.0) over

pub returns-in_err-take-clause-err : goal.returns-in_err-take-clause-err
returns-in_err-take-clause-err g c =
    let fault = err_from_is_err_and c.from_residual.result c.from_residual.ensures.1 in
    let so_far = c.reads.invariant.takes in
    let given : List ℕ = so_far.0 in
    let piece : List ℕ = take c.in-Ok.n c.read.new.buf in
    let fed : Reading = record c.reads.reading { feeder = c.admit.new.self } in
    rw (fault.1, fault.2) (
      given ++ piece,
      Consumes-trans _ (g.R.Read.remaining c.reads.reader) _ given piece so_far.1
          c.in-Ok.ensures.bytes.0,
      FailsIn-more c.args.list.now c.args.reading.now fed given piece [] (given ++ piece) _
          (TakesBytes-fed c.args.list.now c.args.reading.now c.reads.reading c.admit.new.self given
          c.admit.ensures.line so_far.3)
          (ap (λ l. given ++ l) (sym (append-nil piece)))
          c.in_err-take.ensures.err,
    )
