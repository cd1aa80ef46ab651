use Rattle.mq_rename.specs.Lists.{texts}
use Rattle.mq_through.proofs.PartLemmas.{rule_has, rule_part}
use Rattle.mq_through.proofs.parts.add_rule.Goals as goal

pub returns-clause-widens : goal.returns-clause-widens
returns-clause-widens c = λ plan after h e.
    c.in_ok-add_part.ensures.widens plan
    (rule_part plan c.args.before.now c.args.rule.now after (texts c.in_ok-taken.taken.items)
    c.in-Some.kind c.in-Some.ensures.some h e c.in_ok-taken.ensures)

pub returns-clause-has : goal.returns-clause-has
returns-clause-has c = λ topic name h t e.
    c.in_ok-add_part.ensures.has topic
    (rule_has c.args.before.now c.args.rule.now (texts c.in_ok-taken.taken.items) c.in-Some.kind
    topic c.in-Some.ensures.some c.in_ok-taken.ensures h t)
