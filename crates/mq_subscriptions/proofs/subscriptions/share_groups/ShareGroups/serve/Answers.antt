use Rattle.std.proofs.Common.{◌∙◌, [], sym, ap, refl, Some}
use Rattle.mq_world.specs.World.{Subscription, same_key}
use Rattle.mq_world.proofs.TextKeys.{finds}
use Rattle.mq_subscriptions.specs.Filters.{has_client, is_empty, row}
use Rattle.mq_subscriptions.proofs.EntryLemmas.{group-edited, group-absent, keyed, own_key}
use Rattle.mq_subscriptions.proofs.EntryLemmas.{put_last-live, found_live}
use Rattle.mq_subscriptions.proofs.InTurn.{turning, map-put_last, same-is, same-itself}
use Rattle.mq_subscriptions.proofs.TextMaps.{live-set}
use Rattle.mq_subscriptions.proofs.subscriptions.share_groups.ShareGroups.serve.Goals as goal

pub returns : goal.returns
returns c =
    let share = c.args.share.now in
    let w = c.serve.new.self in
    rw (← c.self.view_is) (λ f. (let s : Subscription = keyed c.args.client.now (Some share) f in
    group-edited share c.self.inside.by_share.entries c.get_mut.ensures.ordered
    c.in-Some.group.now w (c.get_mut.follows.lender w).entries
    (rw c.in-Some.is at (sym c.get_mut.ensures.value)) (c.get_mut.follows.holds w).0
    f s refl (turning s) (same-is _ _ (rw c.serve.ensures (map-put_last (row (Some share) f)
    (has_client c.args.client.now) (same_key s) (own_key (Some share) f c.args.client.now)
    c.in-Some.group.now)))))

pub invariant_of-self-2 : goal.invariant_of-self-2
invariant_of-self-2 c =
    let w = c.serve.new.self in
    let found = rw c.in-Some.is at (sym c.get_mut.ensures.value) in
    rw ((c.get_mut.follows.holds w).0)
    (live-set (finds c.args.share.now) c.self.inside.by_share.entries w
    (ap is_empty c.serve.ensures ∙ put_last-live (has_client c.args.client.now) c.in-Some.group.now
    (found_live c.args.share.now c.self.inside.by_share.entries c.self.invariant
    c.in-Some.group.now found)) c.self.invariant)

pub returns-in_default : goal.returns-in_default
returns-in_default c =
    rw (← c.self.view_is, c.get_mut.follows.holds-at-none) (λ f.
    (let s : Subscription = keyed c.args.client.now (Some c.args.share.now) f in
    group-absent c.args.share.now c.self.inside.by_share.entries
    (rw c.in_default.is at (sym c.get_mut.ensures.value)) f s refl (turning s) (same-itself [])))
