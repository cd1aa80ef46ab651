use Rattle.std.proofs.Common.{◌++◌, ◌∷◌, [], arith, subst, sym}
use Rattle.std.proofs.lemmas.Result.{err_from_is_err_and}
use Rattle.mq_jsonl.specs.Lines.{all_lines, whole_lines}
use Rattle.mq_reach.specs.Faults.{IsFaultAmong}
use Rattle.mq_reach.specs.Search.{IsSearched}
use Rattle.mq_reach.specs.Subscriptions.{subscriptions}
use Rattle.mq_reach.proofs.FaultLemmas.{next_fault}
use Rattle.mq_reach.proofs.ScriptLemmas.{IsSearched-next}
use Rattle.mq_reach.proofs.reading.finish.Goals as goal

pub returns-then-not-has_last_piece-clause-ok : goal.returns-then-not-has_last_piece-clause-ok
returns-then-not-has_last_piece-clause-ok c = λ script holds.
    c.in_ok-findings.ensures c.args.list.now (all_lines script)
    (subst (λ all. IsSearched c.args.list.now all c.args.reading.search)
    (sym (c.has_last_piece.ensures.none c.if-not-has_last_piece.true script holds.line))
    holds.searched)

pub returns-clause-ok : goal.returns-clause-ok
returns-clause-ok c = λ script holds.
    c.in_ok-findings-2.ensures c.args.list.now (all_lines script)
    (IsSearched-next c.args.list.now (whole_lines script) (all_lines script)
    c.args.reading.feeder c.args.reading.search c.take_line.new.self
    (c.has_last_piece.ensures.last c.if-not-has_last_piece.false script holds.line)
    (λ before is. subst (λ l. IsSearched c.args.list.now (before ++ l ∷ [])
    c.take_line.new.self) c.line.ensures
    (c.in_ok-take_line.ensures.searched before is)) holds.searched)

pub returns-in_err-take_line-clause-err : goal.returns-in_err-take_line-clause-err
returns-in_err-take_line-clause-err c = λ script holds.
    let fault = err_from_is_err_and c.from_residual-in_err-take_line.result
    c.from_residual-in_err-take_line.ensures.1 in
    rw (fault.1, fault.2) (next_fault c.args.list.now (whole_lines script) (all_lines script)
    c.args.reading.feeder c.args.reading.search _
    (c.has_last_piece.ensures.last c.if-not-has_last_piece.false script holds.line)
    (λ before is. subst (λ l. IsFaultAmong c.args.list.now (subscriptions (before ++ l ∷ []))
    c.in_err-take_line.field-0.0) c.line.ensures
    (c.in_err-take_line.ensures.err before is)) holds.searched)

pub take_line-requires : goal.take_line-requires
take_line-requires c =
    let some = c.has_last_piece.ensures.some c.if-not-has_last_piece.false in
    let room = c.requires in
    omega arith
