use Rattle.std.proofs.Common.{◌∙◌, sym, ap, refl, map, Some}
use Rattle.mq_world.specs.World.{Subscription}
use Rattle.mq_world.proofs.TextKeys.{finds}
use Rattle.mq_subscriptions.specs.Edits.{GroupLeaves}
use Rattle.mq_subscriptions.specs.Filters.{row}
use Rattle.mq_subscriptions.specs.Views.{texts}
use Rattle.mq_subscriptions.proofs.EntryLemmas.{group-edited, group-out, group-absent, keyed}
use Rattle.mq_subscriptions.proofs.EntryLemmas.{left_rows, empty_is}
use Rattle.mq_subscriptions.proofs.InTurn.{leaving}
use Rattle.mq_subscriptions.proofs.TextMaps.{live-set, live-out, removed-set}
use Rattle.mq_subscriptions.proofs.subscriptions.share_groups.ShareGroups.remove.Goals as goal

pub returns-in_default : goal.returns-in_default
returns-in_default c =
    rw (← c.self.view_is, c.get_mut.follows.holds-at-none) (λ f.
    (let s : Subscription = keyed c.args.client.now (Some c.args.share.now) f in
    group-absent c.args.share.now c.self.inside.by_share.entries
    (rw c.in_default.is at (sym c.get_mut.ensures.value)) f s refl (leaving s) refl))

pub returns-then-is_empty : goal.returns-then-is_empty
returns-then-is_empty c =
    let share = c.args.share.now in
    let v = c.in-Some.group.now in
    let w = c.remove.new.self in
    let left : GroupLeaves share c.args.client.now c.args.self.now
    (texts c.remove-then-is_empty.new.self.entries) = rw (← c.self.view_is) (λ f.
    (let s : Subscription = keyed c.args.client.now (Some share) f in
    group-out share c.self.inside.by_share.entries c.get_mut.ensures.ordered v w
    (c.get_mut.follows.lender w).entries
    (rw c.in-Some.is at (sym c.get_mut.ensures.value)) (c.get_mut.follows.holds w).0
    f s refl (leaving s)
    c.remove-then-is_empty.new.self.entries c.remove-then-is_empty.ensures.entries
    (ap (map (row (Some share) f))
    (sym (empty_is w (sym c.is_empty.ensures ∙ c.if-is_empty.true)) ∙ c.remove.ensures)
    ∙ left_rows (Some share) f c.args.client.now v))) in
    elim c.match-remove.branch [
      | goal.in-Some-1 s ↦ rw s.self-is left
      | goal.in-None-1 s ↦ rw s.self-is left
    ]

pub invariant_of-self-then-is_empty : goal.invariant_of-self-then-is_empty
invariant_of-self-then-is_empty c =
    let test = finds c.args.share.now in
    let es = c.self.inside.by_share.entries in
    let w = c.remove.new.self in
    rw (c.remove-then-is_empty.ensures.entries, (c.get_mut.follows.holds w).0)
    (rw (removed-set test es w) (live-out test es c.self.invariant))

pub returns-else-is_empty : goal.returns-else-is_empty
returns-else-is_empty c =
    let share = c.args.share.now in
    let w = c.remove.new.self in
    rw (← c.self.view_is) (λ f. (let s : Subscription = keyed c.args.client.now (Some share) f in
    group-edited share c.self.inside.by_share.entries c.get_mut.ensures.ordered
    c.in-Some.group.now w (c.get_mut.follows.lender w).entries
    (rw c.in-Some.is at (sym c.get_mut.ensures.value)) (c.get_mut.follows.holds w).0
    f s refl (leaving s)
    (rw c.remove.ensures (left_rows (Some share) f c.args.client.now c.in-Some.group.now))))

pub invariant_of-self-else-is_empty : goal.invariant_of-self-else-is_empty
invariant_of-self-else-is_empty c =
    let w = c.remove.new.self in
    rw ((c.get_mut.follows.holds w).0)
    (live-set (finds c.args.share.now) c.self.inside.by_share.entries w
    (sym c.is_empty.ensures ∙ c.if-is_empty.false) c.self.invariant)
