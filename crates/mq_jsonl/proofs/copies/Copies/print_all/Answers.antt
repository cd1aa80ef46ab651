use Rattle.std.proofs.Common.{◌∷◌, ◌∙◌, ap}
use Rattle.std.proofs.lemmas.List.{nil_from_length}
use Rattle.std.proofs.lemmas.Result.{err_from_is_err_and}
use Rattle.mq_jsonl.proofs.AddedLemmas.{none_printed, more_printed, all_printed, more_added}
use Rattle.mq_jsonl.proofs.copies.Copies.print_all.Goals as goal

pub loop-first-init : goal.loop-first-init
loop-first-init c =
    record { out = none_printed c.args.line c.args.all.now c.args.out.now.items; kept = tt }

pub loop-first-preserved : goal.loop-first-preserved
loop-first-preserved c =
    let run = c.in_ok-left.ensures.ok in
    record {
      out = more_printed c.args.line c.args.all.now c.loop-first.left.now
          (c.in-Some.first.now ∷ run.0) _ c.args.out.now.items c.loop-first.out.items _
          c.loop-first.invariant.out
          (c.in-Some.ensures.cases.0 ∙ ap (λ l. c.in-Some.first.now ∷ l) run.1) run.2;
      kept = c.in_ok-left.ensures.kept;
    }

pub returns-in_err-left-clause-err : goal.returns-in_err-left-clause-err
returns-in_err-left-clause-err c =
    let fault = err_from_is_err_and c.from_residual.result c.from_residual.ensures.1 in
    rw fault.1 (more_added c.args.out.now.items _ _ _ c.loop-first.invariant.out.lines
    c.in_err-left.ensures.err)

pub returns-clause-ok : goal.returns-clause-ok
returns-clause-ok c =
    all_printed c.args.line c.args.all.now c.loop-first.left.now c.args.out.now.items
    c.loop-first.out.items c.loop-first.invariant.out (nil_from_length _ c.in_default.ensures.cases)
