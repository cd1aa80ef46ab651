use Rattle.std.proofs.Common.{◌≡◌, ◌++◌, []}
use Rattle.mq_subscriptions.specs.Filters.{unshared_rows}
use Rattle.mq_subscriptions.specs.Views.{texts}
use Rattle.mq_subscriptions.specs.Matches.{match_views, unshared_matches}
use Rattle.mq_world.specs.Views.{message_of}
use Rattle.mq_subscriptions.proofs.subscriptions.filter_entry.FilterEntry.gather_matches.Given as goal

abbrev pub invariant-loop-client : goal.invariant-loop-client
invariant-loop-client l =
    match_views l.matches.items ++ unshared_matches (message_of l.message)
    (unshared_rows [] (texts l.client-iterator)) ≡ match_views l.initial.matches.items
    ++ unshared_matches (message_of l.message) l.self.rows
