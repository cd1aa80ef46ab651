use Rattle.std.proofs.Common.{ap, subst, sym, ◌∙◌}
use Rattle.mq_regions.specs.Deciding.{first_line}
use Rattle.mq_regions.specs.Limits.{is_long_question}
use Rattle.mq_rename.specs.Lists.{IsFault}
use Rattle.mq_rename.specs.declared.fault.MeetFault.{MeetFault}
use Rattle.mq_through.specs.Made.{AreShort, asks_new}
use Rattle.mq_through.proofs.FaultLemmas.{kept_short, not_too_long, users_short}
use Rattle.mq_through.proofs.lists.made_of_new.Goals as goal

pub with_users-requires-clause-users : goal.with_users-requires-clause-users
with_users-requires-clause-users c =
    subst AreShort (sym c.deref-in-Ok.ensures.value)
    (users_short c.args.comparison.now c.requires.comparison)

pub unreachable-requires : goal.unreachable-requires
unreachable-requires c =
    let k = c.args.comparison.now in
    not_too_long k.plan.now c.args.region.now c.args.client.now c.deref.result.now
    c.requires.region c.requires.client
    (kept_short k.new.now c.args.needed.now.new.items c.deref.result.now
    c.requires.comparison.fit.new_short c.requires.needed.new_rows.short
    c.deref.ensures.value)
    (subst (λ (fault : MeetFault). IsFault fault
    (is_long_question c.args.region.now c.args.client.now c.deref.result.now))
    c.in-Err-TooLong.field-0-is c.in-Err-TooLong.ensures.fault)

pub returns-in_ok-made-in-Ok-clause-list : goal.returns-in_ok-made-in-Ok-clause-list
returns-in_ok-made-in-Ok-clause-list c =
    c.in_ok-made-in-Ok.ensures.list (asks_new c.args.region.now) c.args.client.now
    c.args.comparison.now.new.now (record {
      same = λ x n m u p v g e.
          c.in-Ok.ensures.same x n m u p v g e
          ∙ ap (first_line p c.args.client.now u m) c.deref.ensures.value
          ∙ c.requires.needed.new_rows.same n m c.args.client.now u p v g e;
      outside = c.in-Ok.ensures.outside;
      short = c.in-Ok.ensures.short
          (kept_short c.args.comparison.now.new.now c.args.needed.now.new.items
          c.deref.result.now c.requires.comparison.fit.new_short
          c.requires.needed.new_rows.short c.deref.ensures.value);
    })
