use Rattle.std.proofs.Common.{◌∙◌, sym}
use Rattle.mq_world.proofs.TextKeys.{finds}
use Rattle.mq_subscriptions.specs.Filters.{text_key}
use Rattle.mq_subscriptions.specs.SubFilters.{ListsLess}
use Rattle.mq_subscriptions.specs.Views.{texts}
use Rattle.mq_subscriptions.proofs.ListedLemmas.{dropped-there, dropped-last, dropped-absent}
use Rattle.mq_subscriptions.proofs.TextMaps.{live-set, live-out, removed-set}
use Rattle.mq_subscriptions.proofs.subscriptions.client_lists.ClientLists.remove.Goals as goal

pub returns-in_default : goal.returns-in_default
returns-in_default c =
    rw (← c.self.view_is, c.get_mut.follows.holds-at-none) (dropped-absent c.args.client.now
    (text_key c.args.text.now) c.self.inside.by_client.entries
    (rw c.in_default.is at (sym c.get_mut.ensures.value)))

pub returns-then-is_empty : goal.returns-then-is_empty
returns-then-is_empty c =
    let w = c.remove.new.self in
    let rest : ListsLess c.args.client.now (text_key c.args.text.now) c.args.self.now
    (texts c.remove-then-is_empty.new.self.entries) = rw (← c.self.view_is)
    (dropped-last c.args.client.now (text_key c.args.text.now) c.self.inside.by_client.entries
    c.in-Some.filters.now w (c.get_mut.follows.lender w).entries
    (rw c.in-Some.is at (sym c.get_mut.ensures.value)) (c.get_mut.follows.holds w).0
    c.self.invariant.ordered c.remove-then-is_empty.new.self.entries
    c.remove-then-is_empty.ensures.entries
    (sym c.is_empty.ensures ∙ c.if-is_empty.true) c.remove.ensures) in
    elim c.match-remove.branch [
      | goal.in-Some-1 s ↦ rw s.self-is rest
      | goal.in-None-1 s ↦ rw s.self-is rest
    ]

pub invariant_of-self-then-is_empty : goal.invariant_of-self-then-is_empty
invariant_of-self-then-is_empty c =
    let w = c.remove.new.self in
    let test = finds c.args.client.now in
    let es = c.self.inside.by_client.entries in
    record {
      live = rw (c.remove-then-is_empty.ensures.entries, (c.get_mut.follows.holds w).0)
          (rw (removed-set test es w) (live-out test es c.self.invariant.live));
      ordered = c.remove-then-is_empty.ensures.ordered;
    }

pub returns-else-is_empty : goal.returns-else-is_empty
returns-else-is_empty c =
    let w = c.remove.new.self in
    rw (← c.self.view_is) (dropped-there c.args.client.now (text_key c.args.text.now)
    c.self.inside.by_client.entries c.in-Some.filters.now w (c.get_mut.follows.lender w).entries
    (rw c.in-Some.is at (sym c.get_mut.ensures.value)) (c.get_mut.follows.holds w).0
    c.remove.ensures)

pub invariant_of-self-else-is_empty : goal.invariant_of-self-else-is_empty
invariant_of-self-else-is_empty c =
    let w = c.remove.new.self in
    record {
      live = rw ((c.get_mut.follows.holds w).0) (live-set (finds c.args.client.now)
          c.self.inside.by_client.entries w (sym c.is_empty.ensures ∙ c.if-is_empty.false)
          c.self.invariant.live);
      ordered = (c.get_mut.follows.holds w).4;
    }
