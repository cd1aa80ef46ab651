use Rattle.std.proofs.Common.{◌∙◌, ap}
use Rattle.std.proofs.lemmas.Result.{on_ok_weaker}
use Rattle.mq_ask_why.specs.Explained.{answers_text}
use Rattle.mq_ask_why.specs.Questions.{numbered_views}
use Rattle.mq_print.specs.Lists.{list_view}
use Rattle.mq_ask_why.proofs.each.show_each.Goals as goal

pub returns-clause-json : goal.returns-clause-json
returns-clause-json g c =
    let text = c.in_ok-text.ensures
    ∙ ap (answers_text (list_view c.args.list)) c.as_slice-2.ensures.value in
    on_ok_weaker c.print_outcome.result
    (λ written. record {
      answers = c.in_ok-answers.answers.items;
      are = c.in_ok-answers.ensures.ok c.args.questions.text.now
          (ap numbered_views c.as_slice.ensures.value ∙ c.in_ok-lines.ensures);
      written = rw text at written;
    }) c.print_outcome.ensures.printed
