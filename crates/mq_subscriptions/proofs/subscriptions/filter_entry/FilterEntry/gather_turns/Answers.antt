use Rattle.std.proofs.lemmas.Result.{on_ok_weaker}
use Rattle.mq_subscriptions.specs.Views.{texts}
use Rattle.mq_subscriptions.proofs.EntryTurnLemmas.{next-at}
use Rattle.mq_subscriptions.proofs.subscriptions.filter_entry.FilterEntry.gather_turns.Goals as goal

pub returns : goal.returns
returns g c =
    let passes = g.T.ClientTest.passes c.args.test.now in
    rw (← c.self.view_is) (on_ok_weaker c.gather_turns.result (λ gathers share.
    rw (← next-at passes c.self.inside.filter.value share (texts c.self.inside.unshared.entries)
    c.self.inside.groups) (gathers share)) c.gather_turns.ensures)
