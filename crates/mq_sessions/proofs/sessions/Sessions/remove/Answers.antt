use Rattle.std.proofs.Common.{◌∙◌, List, not, map, ap, subst, sym}
use Rattle.std.specs.List.{filter}
use Rattle.mq_world.specs.World.{Session, has_id}
use Rattle.mq_sessions.specs.Ends.{KeepIds, views_of}
use Rattle.mq_sessions.specs.Views.{session_in, sessions_of}
use Rattle.mq_sessions.proofs.CountLemmas.{count-removed}
use Rattle.mq_sessions.proofs.EntryLemmas.{ids-removed}
use Rattle.mq_sessions.proofs.IndexLemmas.{kept-fewer}
use Rattle.mq_sessions.proofs.SessionLemmas.{removed-is}
use Rattle.mq_world.proofs.TextKeys.{finds}
use Rattle.mq_sessions.proofs.sessions.Sessions.remove.Goals as goal

pub sweep-requires-clause-kept : goal.sweep-requires-clause-kept
sweep-requires-clause-kept c =
    kept-fewer c.self.inside.index (λ session. not (has_id c.args.id.now session))
    (sessions_of c.self.inside) (views_of c.remove-removed.new.self.entries)
    (ap (map session_in) c.remove-removed.ensures.entries
    ∙ removed-is c.args.id.now c.self.inside.by_id.entries c.len-count.ensures.ordered)
    c.self.invariant.0.kept

pub sweep-requires-clause-count : goal.sweep-requires-clause-count
sweep-requires-clause-count c =
    count-removed (finds c.args.id.now) c.self.inside.by_id.entries _ _ _ _
    c.remove-removed.ensures.entries c.remove-removed.ensures.value c.was_ending.ensures
    c.self.invariant.0.count

pub invariant_of-self : goal.invariant_of-self
invariant_of-self c = (
  c.sweep.ensures,
  subst KeepIds (sym c.remove-removed.ensures.entries)
      (ids-removed (finds c.args.id.now) c.self.inside.by_id.entries c.self.invariant.1),
)

pub returns : goal.returns
returns c =
    ap (map session_in) c.remove-removed.ensures.entries
    ∙ removed-is c.args.id.now c.self.inside.by_id.entries c.len-count.ensures.ordered
    ∙ ap (λ (ss : List Session). filter (λ s. not (has_id c.args.id.now s)) ss) c.self.view_is
