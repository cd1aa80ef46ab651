use Rattle.std.proofs.Common.{◌∙◌, sym, ap}
use Rattle.std.specs.Rc.{rc_str_bytes}
use Rattle.std.specs.Map.{set_value}
use Rattle.std.proofs.lemmas.Result.{on_ok_weaker, on_err_weaker}
use Rattle.std.proofs.lemmas.Map.Steps.{set_value_same}
use Rattle.mq_subscriptions.specs.Filters.{text_key}
use Rattle.mq_subscriptions.specs.Views.{texts}
use Rattle.mq_world.proofs.TextKeys.{finds}
use Rattle.mq_subscriptions.proofs.Outcomes.{by_outcome}
use Rattle.mq_subscriptions.proofs.TextMaps.{lookup-texts, live-set}
use Rattle.mq_subscriptions.proofs.ListedLemmas.{added-there, added-live}
use Rattle.mq_subscriptions.proofs.subscriptions.client_lists.ClientLists.insert.Goals as goal

pub returns-in-Some : goal.returns-in-Some
returns-in-Some c =
    let client = rc_str_bytes c.args.client.now in
    let test = finds client in
    let ls = c.self.inside.by_client.entries in
    let w = c.insert.new.self in
    let found = rw c.in-Some.is at (sym c.get_mut.ensures.value) in
    let set = (c.get_mut.follows.holds w).0 in
    record {
      ok = rw (← c.self.view_is) (on_ok_weaker c.insert.result
          (added-there client (text_key c.args.text.now) ls c.in-Some.filters.now w
          (c.get_mut.follows.lender w).entries found set) c.insert.ensures.ok);
      err = on_err_weaker c.insert.result (λ same. ap texts (set ∙ ap (set_value test ls) same
          ∙ set_value_same test ls c.in-Some.filters.now found) ∙ c.self.view_is)
          c.insert.ensures.err;
    }

pub insert_first-requires-clause-absent : goal.insert_first-requires-clause-absent
insert_first-requires-clause-absent c =
    rw c.get_mut.follows.holds-at-none
    (lookup-texts (rc_str_bytes c.args.client.now) c.self.inside.by_client.entries
    ∙ (rw c.in-None.is at (sym c.get_mut.ensures.value)))

pub invariant_of-self : goal.invariant_of-self
invariant_of-self c =
    let w = c.insert.new.self in
    let test = finds (rc_str_bytes c.args.client.now) in
    let ls = c.self.inside.by_client.entries in
    let found = rw c.in-Some.is at (sym c.get_mut.ensures.value) in
    record {
      live = by_outcome c.insert.result c.insert.ensures.ok c.insert.ensures.err
          (λ more. rw ((c.get_mut.follows.holds w).0) (live-set test ls w
          (added-live (text_key c.args.text.now) c.in-Some.filters.now w more)
          c.self.invariant.live))
          (λ same. rw ((c.get_mut.follows.holds w).0, same)
          (rw (set_value_same test ls c.in-Some.filters.now found) c.self.invariant.live));
      ordered = (c.get_mut.follows.holds w).4;
    }

pub returns-in-None-clause-ok : goal.returns-in-None-clause-ok
returns-in-None-clause-ok c =
    rw (c.get_mut.follows.holds-at-none, c.self.view_is) at c.insert_first.ensures.ok
