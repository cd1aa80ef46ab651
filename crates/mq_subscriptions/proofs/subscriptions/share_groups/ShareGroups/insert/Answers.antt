use Rattle.std.proofs.Common.{◌∙◌, sym, ap, refl, Some}
use Rattle.std.specs.Rc.{rc_str_bytes}
use Rattle.std.specs.Map.{set_value}
use Rattle.std.proofs.lemmas.Result.{on_ok_weaker, on_err_weaker}
use Rattle.std.proofs.lemmas.Map.Steps.{set_value_same}
use Rattle.mq_world.specs.World.{Subscription, same_key}
use Rattle.mq_world.proofs.TextKeys.{finds}
use Rattle.mq_subscriptions.specs.Filters.{Member, has_client, is_empty, row}
use Rattle.mq_subscriptions.specs.Views.{texts}
use Rattle.mq_subscriptions.proofs.EntryLemmas.{group-edited, with_one-live, own_key}
use Rattle.mq_subscriptions.proofs.InTurn.{joining, map-with_one, same-is}
use Rattle.mq_subscriptions.proofs.Outcomes.{by_outcome}
use Rattle.mq_subscriptions.proofs.TextMaps.{lookup-texts, live-set}
use Rattle.mq_subscriptions.proofs.subscriptions.share_groups.ShareGroups.insert.Goals as goal

pub returns-in-Some : goal.returns-in-Some
returns-in-Some c =
    let share = c.args.share.now in
    let es = c.self.inside.by_share.entries in
    let v = c.in-Some.group.now in
    let w = c.insert.new.self in
    let m : Member = (rc_str_bytes c.args.client, c.args.options) in
    let found = rw c.in-Some.is at (sym c.get_mut.ensures.value) in
    let set = (c.get_mut.follows.holds w).0 in
    record {
      ok = rw (← c.self.view_is) (on_ok_weaker c.insert.result (λ joined f.
          (let s : Subscription = row (Some share) f m in
          group-edited share es c.get_mut.ensures.ordered v w (c.get_mut.follows.lender w).entries
          found set f s refl (joining s) (same-is _ _ (rw joined (map-with_one (row (Some share) f)
          (has_client m.0) (same_key s) (own_key (Some share) f m.0) m v))))) c.insert.ensures.ok);
      err = on_err_weaker c.insert.result (λ same. ap texts (set
          ∙ ap (set_value (finds share) es) same ∙ set_value_same (finds share) es v found)
          ∙ c.self.view_is) c.insert.ensures.err;
    }

pub add-requires : goal.add-requires
add-requires c =
    rw c.get_mut.follows.holds-at-none (lookup-texts c.args.share.now c.self.inside.by_share.entries
    ∙ (rw c.in-None.is at (sym c.get_mut.ensures.value)))

pub invariant_of-self : goal.invariant_of-self
invariant_of-self c =
    let w = c.insert.new.self in
    let found = rw c.in-Some.is at (sym c.get_mut.ensures.value) in
    let es = c.self.inside.by_share.entries in
    by_outcome c.insert.result c.insert.ensures.ok c.insert.ensures.err
    (λ joined. rw ((c.get_mut.follows.holds w).0) (live-set (finds c.args.share.now) es w
    (ap is_empty joined ∙ with_one-live (has_client (rc_str_bytes c.args.client))
    (rc_str_bytes c.args.client, c.args.options) c.in-Some.group.now) c.self.invariant))
    (λ same. rw ((c.get_mut.follows.holds w).0, same)
    (rw (set_value_same (finds c.args.share.now) es c.in-Some.group.now found) c.self.invariant))

pub returns-in-None-clause-ok : goal.returns-in-None-clause-ok
returns-in-None-clause-ok c =
    rw (c.get_mut.follows.holds-at-none, c.self.view_is) at c.add.ensures.ok
