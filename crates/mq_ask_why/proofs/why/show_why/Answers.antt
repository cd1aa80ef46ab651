use Rattle.std.proofs.lemmas.Result.{on_ok_weaker}
use Rattle.mq_ask_why.proofs.why.show_why.Goals as goal

pub returns-clause-json : goal.returns-clause-json
returns-clause-json g c =
    on_ok_weaker c.print_outcome.result
    (λ written. λ json. record {
      explanation = c.in_ok-explanation.explanation;
      explains = c.in_ok-explanation.ensures.ok;
      written = rw (c.in_ok-text.ensures json) at written;
    }) c.print_outcome.ensures.printed
