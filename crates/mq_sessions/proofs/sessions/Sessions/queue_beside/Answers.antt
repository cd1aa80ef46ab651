use Rattle.std.proofs.Common.{◌≡◌, ◌∙◌, List, rules, ap, map, sym, subst}
use Rattle.mq_world.specs.World.{Session}
use Rattle.mq_sessions.specs.Ends.{AreIndexed}
use Rattle.mq_sessions.specs.Pending.{AreAscending}
use Rattle.mq_sessions.specs.Queue.{queue_all}
use Rattle.mq_sessions.specs.Views.{queue_item_of, session_in, sessions_of}
use Rattle.mq_sessions.specs.contracts.sessions.fn.Sessions.queue_beside.retain as closure
use Rattle.mq_sessions.proofs.PendingLemmas.{indexed_all, walked_all, walked_ids}
use Rattle.mq_sessions.proofs.sessions.Sessions.queue_beside.Goals as goal

-- the sessions as the walk leaves them
queued : (c : goal.After-retain)
    → map session_in c.retain.new.self.entries
    ≡ queue_all c.args.limit (map queue_item_of c.args.all.items) (sessions_of c.self.inside)
queued c =
    walked_all _ (λ f. (closure.captures f).limit) (λ f. (closure.captures f).pending)
    (λ f k v b w f' t. search rules) _ _ _ c.retain.ensures.filtered c.retain.ensures.was_ordered
    (subst AreAscending (sym c.new-pending.ensures) c.requires)
    ∙ ap (λ l. queue_all c.args.limit l (sessions_of c.self.inside)) c.new-pending.ensures

pub invariant_of-self : goal.invariant_of-self
invariant_of-self c = (
  subst (AreIndexed c.self.inside.index) (sym (queued c))
      (indexed_all c.args.limit (map queue_item_of c.args.all.items) c.self.inside.index
      (sessions_of c.self.inside) c.self.invariant.0),
  walked_ids _ (λ f. (closure.captures f).limit) (λ f. (closure.captures f).pending)
      (λ f k v b w f' t. search rules) _ _ _ c.retain.ensures.filtered c.self.invariant.1,
)

pub returns : goal.returns
returns c = queued c
    ∙ ap (λ (l : List Session). queue_all c.args.limit (map queue_item_of c.args.all.items) l)
    c.self.view_is
