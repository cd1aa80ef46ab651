use Rattle.std.proofs.Common.{◌∙◌, ap}
use Rattle.std.specs.List.{list_any}
use Rattle.mq_through.specs.Checks.{is_unfit}
use Rattle.mq_through.proofs.LimitLemmas.{none_long}
use Rattle.mq_through.proofs.PartLemmas.{fit_all}
use Rattle.mq_through.proofs.clients.add_named.Goals as goal

pub add_rows-requires : goal.add_rows-requires
add_rows-requires c = none_long c.args.old.now c.requires.old_short

pub add_rows-requires-2 : goal.add_rows-requires-2
add_rows-requires-2 c = none_long c.args.new.now c.requires.new_short

pub add_rules-requires : goal.add_rules-requires
add_rules-requires c =
    ap (list_any is_unfit) c.rules.ensures ∙ fit_all c.args.plan.now c.requires.rules

pub returns-clause-clients : goal.returns-clause-clients
returns-clause-clients c = λ h.
    c.in_ok-add_rules.ensures.clients
    (c.in_ok-add_rows-2.ensures.clients (c.in_ok-add_rows.ensures.clients h))
