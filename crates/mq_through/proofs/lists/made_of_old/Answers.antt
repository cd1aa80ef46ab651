use Rattle.std.proofs.Common.{◌≡◌, Some, ap, refl, subst, sym, ◌∙◌}
use Rattle.mq_regions.specs.Deciding.{first_line}
use Rattle.mq_regions.specs.Limits.{is_long_question}
use Rattle.mq_rename.specs.Lists.{IsFault}
use Rattle.mq_rename.specs.declared.fault.MeetFault.{MeetFault}
use Rattle.mq_through.specs.Made.{AreShort, asks_old}
use Rattle.mq_through.proofs.FaultLemmas.{kept_short, not_too_long, users_short}
use Rattle.mq_through.proofs.lists.made_of_old.Goals as goal

pub with_users-requires-clause-users : goal.with_users-requires-clause-users
with_users-requires-clause-users c =
    subst AreShort (sym c.deref-in-Ok.ensures.value)
    (users_short c.args.comparison.now c.requires.comparison)

pub unreachable-requires : goal.unreachable-requires
unreachable-requires c =
    let k = c.args.comparison.now in
    not_too_long k.plan.now c.args.region.now c.args.client.now c.deref.result.now
    c.requires.region c.requires.client
    (kept_short k.old.now c.args.needed.now.old.items c.deref.result.now
    c.requires.comparison.fit.old_short c.requires.needed.old_rows.short
    c.deref.ensures.value)
    (subst (λ (fault : MeetFault). IsFault fault
    (is_long_question c.args.region.now c.args.client.now c.deref.result.now))
    c.in-Err-TooLong.field-0-is c.in-Err-TooLong.ensures.fault)

pub returns-in_ok-made-in-Ok-clause-list : goal.returns-in_ok-made-in-Ok-clause-list
returns-in_ok-made-in-Ok-clause-list c =
    c.in_ok-made-in-Ok.ensures.list asks_old c.args.client.now
    c.args.comparison.now.old.now (record {
      same = λ x n m u p v g e.
          let both : Some n ≡ Some m = e in
          let one : n ≡ m = cc in
          c.in-Ok.ensures.same x n u p v g
          ∙ ap (first_line p c.args.client.now u n) c.deref.ensures.value
          ∙ c.requires.needed.old_rows.same n n c.args.client.now u p v g refl
          ∙ ap (λ t. first_line p c.args.client.now u t c.args.comparison.now.old.now) one;
      outside = c.in-Ok.ensures.outside;
      short = c.in-Ok.ensures.short
          (kept_short c.args.comparison.now.old.now c.args.needed.now.old.items
          c.deref.result.now c.requires.comparison.fit.old_short
          c.requires.needed.old_rows.short c.deref.ensures.value);
    })
