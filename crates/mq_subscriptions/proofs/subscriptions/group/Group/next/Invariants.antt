use Rattle.std.proofs.Common.{◌≡◌, find}
use Rattle.mq_subscriptions.specs.Views.{texts}
use Rattle.mq_subscriptions.proofs.subscriptions.group.Group.next.Given as goal

abbrev pub invariant-loop-client : goal.invariant-loop-client
invariant-loop-client g l =
    find (λ m. g.T.ClientTest.passes l.test m.0) (texts l.client-iterator)
    ≡ find (λ m. g.T.ClientTest.passes l.test m.0) l.self
