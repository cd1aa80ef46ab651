use Rattle.std.proofs.Common.{◌≡◌, ◌∙◌, ◌&&◌, not, ap, sym}
use Rattle.std.specs.List.{list_any}
use Rattle.std.specs.Rc.{rc_str_bytes}
use Rattle.mq_world.specs.World.{Subscription, same_key, has_key}
use Rattle.mq_subscriptions.specs.SubFilters.{sub_filter_row}
use Rattle.mq_subscriptions.specs.Filters.{text_key, all_rows, is_listed}
use Rattle.mq_subscriptions.proofs.AnyLemmas.{listed-joined, listed-again, listed-undone}
use Rattle.mq_subscriptions.proofs.CountLemmas.{counted-again, counted-new}
use Rattle.mq_subscriptions.proofs.KeyLemmas.{kept-keys}
use Rattle.mq_subscriptions.proofs.subscriptions.Subscriptions.insert.Goals as goal

pub invariant_of-self-then-found : goal.invariant_of-self-then-found
invariant_of-self-then-found c =
    let x : Subscription = sub_filter_row (rc_str_bytes c.args.client.now) c.args.sub_filter.now
    c.args.options in
    let there = sym c.in_ok-found.ensures.existed ∙ c.if-found.true in
    let joins = c.in_ok-found.ensures.replaced c.if-found.true in
    record {
      listed = listed-joined x c.self.inside.tree c.replace_in.new.tree c.self.inside.lists
          c.self.inside.lists c.self.invariant.listed c.replace_in.ensures.kept joins
          (listed-again x c.self.inside.tree c.self.inside.lists c.self.invariant.listed there);
      counted = counted-again c.self.inside.count x (all_rows c.self.inside.tree)
          (all_rows c.replace_in.new.tree) there joins c.self.invariant.counted;
    }

pub invariant_of-self-in-Ok : goal.invariant_of-self-in-Ok
invariant_of-self-in-Ok c =
    let asked = c.requires in
    let x : Subscription = sub_filter_row (rc_str_bytes c.args.client.now) c.args.sub_filter.now
    c.args.options in
    let joins = rw (c.in_ok-found.ensures.absent c.if-found.false) at c.in-Ok.ensures.ok in
    record {
      listed = listed-joined x c.self.inside.tree c.insert_in.new.tree c.self.inside.lists
          c.insert.new.self c.self.invariant.listed c.insert_in.ensures.kept joins
          (λ s. rw (← asked.0, ← asked.1) at (c.in_ok-insert.ensures.ok s));
      counted = rw c.saturating_add-self-inside.ensures (counted-new c.self.inside.count x
          (all_rows c.self.inside.tree) (all_rows c.insert_in.new.tree)
          (sym c.in_ok-found.ensures.existed ∙ c.if-found.false) joins c.self.invariant.counted);
    }

pub invariant_of-self-in-Err : goal.invariant_of-self-in-Err
invariant_of-self-in-Err c =
    let client = rc_str_bytes c.args.client.now in
    let asked = c.requires in
    let x : Subscription = sub_filter_row client c.args.sub_filter.now c.args.options in
    let has : c.in_ok-found.found.subscription ≡ list_any (same_key x) (all_rows c.self.inside.tree) =
    c.in_ok-found.ensures.existed in
    let key = text_key c.args.text.now in
    let same = c.in-Err.ensures.err ∙ c.in_ok-found.ensures.absent c.if-found.false in
    record {
      listed = listed-undone client key c.self.inside.tree c.insert_in.new.tree
          c.self.inside.lists c.insert.new.self c.remove.new.self c.self.invariant.listed same
          (sym (rw (asked.0, asked.1) at has) ∙ c.if-found.false)
          c.in_ok-insert.ensures.ok (λ s. c.remove.ensures s
          ∙ ap (λ id. not (has_key id key.0 key.1 s) && is_listed c.insert.new.self s)
          c.as_str-id.ensures.value);
      counted = rw same c.self.invariant.counted;
    }

pub returns-then-found-clause-keys : goal.returns-then-found-clause-keys
returns-then-found-clause-keys c =
    kept-keys c.replace_in.new.tree c.replace_in.ensures.kept

pub returns-in-Ok-clause-keys : goal.returns-in-Ok-clause-keys
returns-in-Ok-clause-keys c = kept-keys c.insert_in.new.tree c.insert_in.ensures.kept

pub returns-then-found-clause-ok : goal.returns-then-found-clause-ok
returns-then-found-clause-ok c =
    rw (← c.self.view_is) (c.in_ok-found.ensures.replaced c.if-found.true)

pub returns-in-Ok-clause-ok : goal.returns-in-Ok-clause-ok
returns-in-Ok-clause-ok c =
    rw (← c.self.view_is) (rw (c.in_ok-found.ensures.absent c.if-found.false)
    at c.in-Ok.ensures.ok)

pub invariant_of-self : goal.invariant_of-self
invariant_of-self c = record {
  listed = rw c.in_err-found.ensures.err c.self.invariant.listed;
  counted = rw c.in_err-found.ensures.err c.self.invariant.counted;
}

pub invariant_of-self-in_err-insert : goal.invariant_of-self-in_err-insert
invariant_of-self-in_err-insert c =
    let same = c.in_ok-found.ensures.absent c.if-found.false in
    record {
      listed = rw (c.in_err-insert.ensures.err, same) c.self.invariant.listed;
      counted = rw same c.self.invariant.counted;
    }
