use Rattle.std.proofs.Common.{◌∙◌, List, ℕ, ap, subst, true}
use Rattle.std.proofs.lemmas.Result.{IfOk-weaker}
use Rattle.mq_ask_test.specs.Junit.{AreCases}
use Rattle.mq_print.specs.Lists.{lent_texts}
use Rattle.mq_print.specs.Shown.{shown}
use Rattle.mq_print.specs.declared.escape.Escape.TheVariants.{Words}
use Rattle.mq_ask_test.proofs.junit.junit_text.Goals as goal

pub returns : goal.returns
returns c = IfOk-weaker c.shown_lines.result _ _
    (λ text is. record {
      cases = c.in_ok-text.ensures.0;
      are = subst (λ (lines : List (List ℕ)). AreCases
          (record { file = c.args.expected.file.now; lines = lines }) c.args.verdicts.now
          c.in_ok-text.ensures.0)
          (ap lent_texts c.deref.ensures.value ∙ c.in_ok-lines.ensures) c.in_ok-text.ensures.1;
      text_is = is ∙ ap (shown true Words) (c.as_str.ensures.value ∙ c.in_ok-text.ensures.2);
    })
    c.shown_lines.ensures
