use Rattle.std.proofs.Common.{◌∙◌}
use Rattle.mq_print.specs.Lists.{list_view}
use Rattle.mq_ask_lint.proofs.LintLemmas.{linted}
use Rattle.mq_ask_lint.proofs.ObjectLemmas.{all_added}
use Rattle.mq_ask_lint.proofs.lint.add_lint.Goals as goal

pub returns-clause-ok : goal.returns-clause-ok
returns-clause-ok c =
    linted c.args.options.rules c.args.list.text.now c.in_ok-found.found c.outcome_of-outcome.result
    c.in_ok-found.ensures.ok c.outcome_of-outcome.ensures.clear c.outcome_of-outcome.ensures.remark

pub returns-clause-json : goal.returns-clause-json
returns-clause-json c = λ json. record {
  found = c.in_ok-found.found;
  are = c.in_ok-found.ensures.ok;
  objects = all_added (list_view c.args.list) c.args.list.text.now c.in_ok-found.found _ _ _ _ _ _ _ _
      c.deref.ensures.value c.deref-2.ensures.value c.deref-3.ensures.value
      (c.deref-4.ensures.value ∙ c.in_ok-refused.ensures) (c.in_ok-add_remarks.ensures json)
      (c.in_ok-add_refused.ensures json) (c.in_ok-add_whole.ensures json _);
}
