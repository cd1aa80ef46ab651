use Rattle.std.proofs.Common.{◌≡◌, ◌++◌, ◌∷◌, [], length, arith, refl, ap, subst, ◌∙◌}
use Rattle.std.proofs.lemmas.Result.{err_from_is_err_and}
use Rattle.mq_jsonl.specs.Feeding.{open_line}
use Rattle.mq_jsonl.proofs.PieceLemmas.{parted}
use Rattle.mq_reach.specs.Faults.{IsFaultAmong}
use Rattle.mq_reach.specs.Search.{IsSearched}
use Rattle.mq_reach.specs.Subscriptions.{subscriptions}
use Rattle.mq_reach.proofs.FaultLemmas.{FailsIn-line, FailsIn-memory, FailsIn-more}
use Rattle.mq_reach.proofs.ScriptLemmas.{TakesBytes-line, TakesBytes-none, TakesBytes-text}
use Rattle.mq_reach.proofs.ScriptLemmas.{TakesBytes-then}
use Rattle.mq_reach.proofs.reading.take.Goals as goal

pub lines-init : goal.lines-init
lines-init c = record {
  takes = ([], refl, TakesBytes-none c.args.list.now c.args.reading.now);
  lines = omega arith;
  room = refl;
}

pub lines-preserved : goal.lines-preserved
lines-preserved c =
    let at = c.lines.invariant.takes in
    let ended = rw c.in-Some.is at c.in_ok-others.ensures.lines in
    let shorter = rw c.in-Some.is at c.in_ok-others.ensures.shorter in
    record {
      takes = (
        at.0 ++ ended.0,
        parted c.args.bytes.now at.0 c.lines.rest.now ended.0 c.in-Some.others.now at.1 ended.1,
        TakesBytes-then c.args.list.now c.args.reading.now c.lines.reading _ at.0 ended.0 at.2
            (TakesBytes-line c.args.list.now c.lines.reading _ ended.0 ended.2
            (λ before is. subst (λ l. IsSearched c.args.list.now (before ++ l ∷ [])
            c.take_line-in-Some.new.self) c.line.ensures
            (c.in_ok-take_line.ensures.searched before is))),
      );
      lines =
          let none : length (open_line c.take_line.new.self) ≡ 0 = ap length shorter.0 in
          let more = c.in_ok-take_line.ensures.lines in
          let less = shorter.1 in
          let before = c.lines.invariant.lines in
          omega arith;
      room = c.in_ok-others.ensures.room ∙ c.lines.invariant.room;
    }

pub returns-clause-takes : goal.returns-clause-takes
returns-clause-takes c =
    let at = c.lines.invariant.takes in
    let none = rw c.in_default.is at c.in_ok-others.ensures.lines in
    rw at.1 (TakesBytes-then c.args.list.now c.args.reading.now c.lines.reading _ at.0
    c.lines.rest.now at.2
    (TakesBytes-text c.args.list.now c.lines.reading _ c.lines.rest.now refl none))

pub returns-in_err-others-clause-err : goal.returns-in_err-others-clause-err
returns-in_err-others-clause-err c =
    let fault = err_from_is_err_and c.from_residual.result c.from_residual.ensures.1 in
    rw (fault.1, fault.2) (FailsIn-memory c.args.list.now c.args.reading.now c.args.bytes.now)

pub returns-in_err-take_line-clause-err : goal.returns-in_err-take_line-clause-err
returns-in_err-take_line-clause-err c =
    let at = c.lines.invariant.takes in
    let ended = rw c.in-Some.is at c.in_ok-others.ensures.lines in
    let fault = err_from_is_err_and c.from_residual-in_err-take_line.result
    c.from_residual-in_err-take_line.ensures.1 in
    rw (fault.1, fault.2) (FailsIn-more c.args.list.now c.args.reading.now c.lines.reading at.0
    ended.0 c.in-Some.others.now c.args.bytes.now _ at.2 (at.1 ∙ ap (λ l. at.0 ++ l) ended.1)
    (FailsIn-line c.args.list.now c.lines.reading c.take_line.new.self ended.0 _ ended.2
    (λ before is. subst (λ l. IsFaultAmong c.args.list.now (subscriptions (before ++ l ∷ []))
    c.in_err-take_line.field-0.0) c.line.ensures (c.in_err-take_line.ensures.err before is))))
