use Rattle.std.proofs.Common.{◌||◌}
use Rattle.std.specs.List.{list_any}
use Rattle.mq_witness.specs.Literals.{is_among}
use Rattle.mq_through.specs.Checks.{is_unfit}
use Rattle.mq_through.specs.Clients.{rule_tries}
use Rattle.mq_through.proofs.LeftLemmas.{left_more, left_none}
use Rattle.mq_through.proofs.clients.add_rules.Goals as goal

pub loop-rule-preserved : goal.loop-rule-preserved
loop-rule-preserved c =
    let rules = c.args.rules.now in
    let i = c.loop-rule.rule-index in
    let rule = c.rule-item.result in
    record {
      among = λ t.
          left_more (rule_tries t) rules i rule c.loop-rule-test.true c.rule-item.is
          (is_among t c.loop-rule.clients.items) (is_among t c.add_rule.new.clients.items)
          (is_among t c.args.clients.now.items || list_any (rule_tries t) rules)
          (c.in_ok-add_rule.ensures.among t) (c.loop-rule.invariant.among t);
      clients = λ h. c.in_ok-add_rule.ensures.clients (c.loop-rule.invariant.clients h);
      fit = left_none is_unfit rules i rule c.loop-rule-test.true c.rule-item.is
          c.loop-rule.invariant.fit;
    }
