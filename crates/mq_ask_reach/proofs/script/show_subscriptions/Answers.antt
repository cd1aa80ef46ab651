use Rattle.std.proofs.lemmas.Result.{IfOk-weaker, on_ok_weaker}
use Rattle.mq_acl.specs.Views.{row_views}
use Rattle.mq_jsonl.specs.Lines.{all_lines}
use Rattle.mq_reach.specs.Tracked.{subscription_views}
use Rattle.mq_ask_reach.proofs.ScriptLemmas.{shown}
use Rattle.mq_ask_reach.proofs.script.show_subscriptions.Goals as goal

pub returns-clause-ok : goal.returns-clause-ok
returns-clause-ok g c =
    let found = c.in_ok-findings.ensures.ok in
    let is = shown c.args.options.rules c.args.list.text.now found.0 c.in_ok-findings.findings
    c.outcome_of-outcome.result found.3 c.outcome_of-outcome.ensures.clear
    c.outcome_of-outcome.ensures.remark in
    IfOk-weaker c.print_outcome.result _ _
    (λ outcome e. (found.0, found.1, found.2, rw e is)) c.print_outcome.ensures.ok

pub returns-clause-json : goal.returns-clause-json
returns-clause-json g c =
    let found = c.in_ok-findings.ensures.ok in
    on_ok_weaker c.print_outcome.result
    (λ written. λ json. (
      found.0,
      found.1,
      found.2,
      record {
        rows = row_views found.3.rows;
        read = found.3.are_rows.read;
        unreached = subscription_views c.in_ok-findings.findings.unreached.items;
        are = found.3.found.unreached;
        written = rw (c.in_ok-text.ensures (all_lines found.0) found.3.found.counts json) at written;
      },
    )) c.print_outcome.ensures.printed
