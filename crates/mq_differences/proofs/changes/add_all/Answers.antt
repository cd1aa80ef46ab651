use Rattle.mq_differences.proofs.ChangeLemmas.{shows_all_clients}
use Rattle.mq_differences.proofs.changes.add_all.Goals as goal

pub returns-clause-shown : goal.returns-clause-shown
returns-clause-shown c =
    shows_all_clients c.args.lists.now c.add_clients.new.report.differences.items
    c.add_users.new.report.differences.items c.add_clients-2.new.report.differences.items
    c.requires.asked
    c.in_ok-add_users.ensures.grows c.in_ok-add_clients-2.ensures.grows
    c.in_ok-add_clients.ensures.shown c.in_ok-add_users.ensures.shown
    c.in_ok-add_clients-2.ensures.shown
