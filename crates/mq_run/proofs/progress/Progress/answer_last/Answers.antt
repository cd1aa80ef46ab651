use Rattle.std.proofs.Common.{arith}
use Rattle.mq_run.proofs.StepLemmas.{EndsLines-none, Ends-piece}
use Rattle.mq_run.proofs.progress.Progress.answer_last.Goals as goal

pub returns-then-not-has_last_piece-clause-ends : goal.returns-then-not-has_last_piece-clause-ends
returns-then-not-has_last_piece-clause-ends g c =
    EndsLines-none c.args.self.now _ (c.has_last_piece.ensures.none c.if-not-has_last_piece.true)

pub returns-clause-ends : goal.returns-clause-ends
returns-clause-ends g c =
    Ends-piece c.answer.result c.args.self.now c.answer.new.self _ _
    (c.has_last_piece.ensures.last c.if-not-has_last_piece.false)
    c.answer.ensures.answers c.answer.ensures.lines

pub answer-requires : goal.answer-requires
answer-requires g c =
    let some = c.has_last_piece.ensures.some c.if-not-has_last_piece.false in
    let room = c.requires in
    omega arith
