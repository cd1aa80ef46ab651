use Rattle.std.proofs.Common.{◌≡◌, ◌++◌, [], length, arith, refl, ap, ◌∙◌, Ok, Err}
use Rattle.std.specs.Prelude.{⊤}
use Rattle.std.proofs.lemmas.Result.{err_from_is_err_and}
use Rattle.mq_jsonl.specs.Feeding.{open_line}
use Rattle.mq_jsonl.proofs.PieceLemmas.{parted}
use Rattle.mq_run.proofs.StepLemmas.{TakesBytes-none, TakesBytes-then, TakesBytes-text}
use Rattle.mq_run.proofs.StepLemmas.{StopsAmong-then, StopsAmong-grown, StopsAmong-memory}
use Rattle.mq_run.proofs.StepLemmas.{Takes-line}
use Rattle.mq_run.proofs.progress.Progress.take.Goals as goal

pub lines-init : goal.lines-init
lines-init g c = record {
  takes = ([], refl, TakesBytes-none c.args.self.now _);
  counted = refl;
  lines = omega arith;
  room = refl;
}

pub lines-preserved : goal.lines-preserved
lines-preserved g c =
    let at = c.lines.invariant.takes in
    let ended = rw c.in-Some.is at c.in_ok-others.ensures.lines in
    let shorter = rw c.in-Some.is at c.in_ok-others.ensures.shorter in
    let same = c.in_ok-answer.ensures.feeder in
    record {
      takes = (
        at.0 ++ ended.0,
        parted c.args.bytes.now at.0 c.lines.rest.now ended.0 c.in-Some.others.now at.1 ended.1,
        TakesBytes-then c.args.self.now c.lines.self c.answer.new.self at.0 ended.0 _ _ _ at.2
            (Takes-line (Ok c.in_ok-answer.field-0) c.lines.self _ c.answer.new.self ended.0 _ _
            (record { router = refl; summary = refl }) ended.2 c.in_ok-answer.ensures.answers
            c.in_ok-answer.ensures.lines same),
      );
      counted = let n = c.in_ok-answer.ensures.counted in omega arith;
      lines =
          let none : length (open_line c.answer.new.self.feeder) ≡ 0 =
          ap (λ f. length (open_line f)) same ∙ ap length shorter.0 in
          let more = c.in_ok-answer.ensures.lines in
          let less = shorter.1 in
          let before = c.lines.invariant.lines in
          omega arith;
      room = ap (λ f. f.room) same ∙ c.in_ok-others.ensures.room ∙ c.lines.invariant.room;
    }

pub returns-clause-takes : goal.returns-clause-takes
returns-clause-takes g c =
    let at = c.lines.invariant.takes in
    let none = rw c.in_default.is at c.in_ok-others.ensures.lines in
    rw at.1 (TakesBytes-then c.args.self.now c.lines.self _ at.0 c.lines.rest.now _ _ _ at.2
    (TakesBytes-text c.lines.self _ c.lines.rest.now _ (record { router = refl; summary = refl })
    none))

pub returns-in_err-others-clause-takes : goal.returns-in_err-others-clause-takes
returns-in_err-others-clause-takes g c =
    let at = c.lines.invariant.takes in
    let fault = err_from_is_err_and c.from_residual.result c.from_residual.ensures.1 in
    rw (fault.1, fault.2, at.1)
    (StopsAmong-then c.args.self.now c.lines.self at.0 c.lines.rest.now _ _ _ _ at.2
    (StopsAmong-memory c.lines.self c.lines.rest.now _))

pub returns-in_err-answer-clause-takes : goal.returns-in_err-answer-clause-takes
returns-in_err-answer-clause-takes g c =
    let at = c.lines.invariant.takes in
    let ended = rw c.in-Some.is at c.in_ok-others.ensures.lines in
    let fault = err_from_is_err_and c.from_residual-in_err-answer.result
    c.from_residual-in_err-answer.ensures.1 in
    rw (
      fault.1,
      fault.2,
      parted c.args.bytes.now at.0 c.lines.rest.now ended.0 c.in-Some.others.now at.1 ended.1,
    )
    (StopsAmong-grown c.args.self.now (at.0 ++ ended.0) c.in-Some.others.now _ _ _
    (StopsAmong-then c.args.self.now c.lines.self at.0 ended.0 _ _ _ _ at.2
    (Takes-line {T = ⊤} (Err c.in_err-answer.field-0.0) c.lines.self _ c.answer.new.self ended.0 _ _
    (record { router = refl; summary = refl }) ended.2 c.in_err-answer.ensures.answers tt
    c.in_err-answer.ensures.feeder)))

-- ## What is left of lines, and of the devices' failures

pub answer-requires : goal.answer-requires
answer-requires g c =
    let shorter = rw c.in-Some.is at c.in_ok-others.ensures.shorter in
    let less = shorter.1 in
    let before = c.lines.invariant.lines in
    let all = c.requires in
    omega arith

pub lines-smaller : goal.lines-smaller
lines-smaller g c =
    let shorter = rw c.in-Some.is at c.in_ok-others.ensures.shorter in
    shorter.1

pub returns-in_err-answer-clause-counted : goal.returns-in_err-answer-clause-counted
returns-in_err-answer-clause-counted g c =
    let fault = err_from_is_err_and c.from_residual-in_err-answer.result
    c.from_residual-in_err-answer.ensures.1 in
    rw (fault.1, fault.2) (let n = c.in_err-answer.ensures.counted in omega arith)

pub returns-in_err-answer-clause-lines : goal.returns-in_err-answer-clause-lines
returns-in_err-answer-clause-lines g c =
    let fault = err_from_is_err_and c.from_residual-in_err-answer.result
    c.from_residual-in_err-answer.ensures.1 in
    rw (fault.1) tt

pub returns-in_err-answer-clause-room : goal.returns-in_err-answer-clause-room
returns-in_err-answer-clause-room g c =
    let fault = err_from_is_err_and c.from_residual-in_err-answer.result
    c.from_residual-in_err-answer.ensures.1 in
    rw (fault.1) tt

pub returns-in_err-others-clause-counted : goal.returns-in_err-others-clause-counted
returns-in_err-others-clause-counted g c =
    let fault = err_from_is_err_and c.from_residual.result c.from_residual.ensures.1 in
    rw (fault.1, fault.2) (omega arith)

pub returns-in_err-others-clause-lines : goal.returns-in_err-others-clause-lines
returns-in_err-others-clause-lines g c =
    let fault = err_from_is_err_and c.from_residual.result c.from_residual.ensures.1 in
    rw (fault.1) tt

pub returns-in_err-others-clause-room : goal.returns-in_err-others-clause-room
returns-in_err-others-clause-room g c =
    let fault = err_from_is_err_and c.from_residual.result c.from_residual.ensures.1 in
    rw (fault.1) tt

pub returns-clause-counted : goal.returns-clause-counted
returns-clause-counted g c = omega arith

pub returns-clause-lines : goal.returns-clause-lines
returns-clause-lines g c =
    let so_far = c.lines.invariant.lines in
    let more = rw c.in_default.is at c.in_ok-others.ensures.shorter in
    omega arith

pub returns-clause-room : goal.returns-clause-room
returns-clause-room g c = c.in_ok-others.ensures.room ∙ c.lines.invariant.room

pub invariant_of-self : goal.invariant_of-self
invariant_of-self g c = record { refused = c.lines.self.refused }
