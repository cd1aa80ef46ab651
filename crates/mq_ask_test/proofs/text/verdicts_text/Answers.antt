use Rattle.std.proofs.Common.{ap, string_bytes}
use Rattle.mq_ask.proofs.LimitLemmas.{with_limit}
use Rattle.mq_ask_test.proofs.text.verdicts_text.Goals as goal

pub returns-clause-objects : goal.returns-clause-objects
returns-clause-objects c = λ json.
    let said = c.in_ok-text.ensures json in
    record {
      verdicts = said.0;
      are = said.1;
      text_is = with_limit c.args.rules _ _ _ said.2
          (λ own. ap string_bytes (c.in_ok-add_limit.ensures.own own))
          (λ mosquitto. c.in_ok-add_limit.ensures.object mosquitto json);
    }
