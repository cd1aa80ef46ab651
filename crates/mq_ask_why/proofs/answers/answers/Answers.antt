use Rattle.std.proofs.Common.{Ok, ap, sym, ◌∙◌}
use Rattle.mq_ask_why.proofs.AnswerLemmas.{answered_more, asked_more}
use Rattle.mq_ask_why.specs.Questions.{asks_view, question_view}
use Rattle.mq_ask_why.proofs.answers.answers.Goals as goal

pub loop-line-preserved : goal.loop-line-preserved
loop-line-preserved c = record {
  asked = rw c.in_ok-add-in-Ok.ensures (asked_more c.loop-line.all.items c.args.lines.now
      c.loop-line.line-index c.line-item.result c.answer_to.result c.loop-line-test.true
      c.line-item.is (ap asks_view c.in-Ok.is
      ∙ ap (λ q. Ok (question_view q.now)) (sym c.answer_to.ensures.asked))
      c.loop-line.invariant.asked);
  answered = rw c.in_ok-add-in-Ok.ensures (answered_more c.args.rules c.args.rows.now
      c.loop-line.all.items c.answer_to.result c.loop-line.invariant.answered
      c.answer_to.ensures.answered);
}
