use Rattle.std.proofs.Common.{All, ap, map, subst, ◌∙◌}
use Rattle.mq_ask_why.proofs.AnswerLemmas.{asking_numbered}
use Rattle.mq_ask_why.specs.Answers.{IsAnswered}
use Rattle.mq_ask_why.proofs.each.explain_each.Goals as goal

pub returns-clause-ok : goal.returns-clause-ok
returns-clause-ok c = λ questions e. record {
  rows = c.in_ok-rows.rows.items;
  are_rows = c.in_ok-rows.ensures.ok;
  asked = c.in_ok-all.ensures.asked ∙ asking_numbered c.args.lines.now
      ∙ ap (map (λ q. q.1)) e;
  answered = subst (λ rows. All (IsAnswered c.args.rules rows) c.in_ok-all.all.items)
      c.deref.ensures.value c.in_ok-all.ensures.answered;
}
