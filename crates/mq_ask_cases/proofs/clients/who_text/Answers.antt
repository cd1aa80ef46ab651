use Rattle.std.proofs.Common.{◌∙◌, ℕ, List, ap, true}
use Rattle.std.proofs.lemmas.Result.{IfOk-weaker}
use Rattle.mq_ask_cases.specs.Clients.{who_parts, with_parts}
use Rattle.mq_ask_cases.proofs.ClientLemmas.{lent, words_are}
use Rattle.mq_print.specs.Shown.{shown}
use Rattle.mq_print.specs.declared.escape.Escape.TheVariants.{Words}
use Rattle.mq_ask_cases.proofs.clients.who_text.Goals as goal

pub returns : goal.returns
returns c =
    let all = lent c.args.all.now in
    IfOk-weaker c.shown_lines.result _ _
    (λ text is. is ∙ ap (shown true Words) (c.as_str.ensures.value ∙ c.in_ok-add_classes.ensures
    ∙ ap (λ (t : List ℕ). with_parts t (who_parts all)) c.new-text.ensures.bytes
    ∙ words_are all)) c.shown_lines.ensures
