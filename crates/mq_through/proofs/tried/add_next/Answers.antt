use Rattle.std.specs.Option.{option_copied}
use Rattle.mq_through.proofs.LastLemmas.{tried_again}
use Rattle.mq_through.proofs.tried.add_next.Goals as goal

pub returns-then-branch-clause-shown : goal.returns-then-branch-clause-shown
returns-then-branch-clause-shown c =
    tried_again c.args.comparison.now c.args.region.now (option_copied c.args.last)
    c.args.client.now c.in_ok-made.made c.args.found.now.items c.requires.region c.requires.last
    (c.in_ok-is_last.ensures c.if-branch.true) c.in_ok-made.ensures
