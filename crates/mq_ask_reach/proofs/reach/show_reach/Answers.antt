use Rattle.std.specs.Option.{option_copied}
use Rattle.std.proofs.lemmas.Result.{IfOk-weaker, on_ok_weaker}
use Rattle.mq_ask_reach.proofs.ReachLemmas.{reached}
use Rattle.mq_ask_reach.proofs.reach.show_reach.Goals as goal

pub returns-clause-ok : goal.returns-clause-ok
returns-clause-ok g c =
    let is = reached c.args.options.rules c.args.list.text.now c.args.client.id.now (option_copied c.args.client.user)
    c.args.subscription.now
    c.in_ok-found.found c.outcome_of-outcome.result c.in_ok-found.ensures.ok
    c.outcome_of-outcome.ensures.clear
    c.outcome_of-outcome.ensures.remark in
    IfOk-weaker c.print_outcome.result _ _ (λ shown e. rw e is) c.print_outcome.ensures.ok

pub returns-clause-json : goal.returns-clause-json
returns-clause-json g c =
    on_ok_weaker c.print_outcome.result
    (λ written. λ json. record {
      topic = c.in_ok-found.found;
      is = c.in_ok-found.ensures.ok;
      written = rw (c.in_ok-text.ensures json) at written;
    }) c.print_outcome.ensures.printed
