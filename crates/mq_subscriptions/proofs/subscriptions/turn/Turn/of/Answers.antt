use Rattle.std.specs.Rc.{rc_str_bytes}
use Rattle.mq_subscriptions.proofs.EntryTurnLemmas.{same_turn}
use Rattle.mq_subscriptions.proofs.subscriptions.turn.Turn.of.Goals as goal

pub returns-clause-row : goal.returns-clause-row
returns-clause-row c =
    same_turn (rc_str_bytes c.in_ok-clone-3.field-0) (rc_str_bytes c.args.client.now)
    (rc_str_bytes c.in_ok-clone.field-0) (rc_str_bytes c.args.share.now)
    c.in_ok-clone-2.field-0.value c.args.filter.now.value c.args.options
    c.in_ok-clone-3.ensures.cases c.in_ok-clone.ensures.cases c.in_ok-clone-2.ensures.cases
