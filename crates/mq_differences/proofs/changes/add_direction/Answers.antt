use Rattle.std.proofs.Common.{◌∙◌}
use Rattle.mq_differences.specs.Questions.{judging}
use Rattle.mq_differences.specs.declared.way.Way.TheVariants.{Gained}
use Rattle.mq_differences.proofs.ChangeLemmas.{judges_of, shows_kept, shows_ways}
use Rattle.mq_differences.proofs.changes.add_direction.Goals as goal

pub add_gains-requires : goal.add_gains-requires
add_gains-requires c =
    let old = c.args.lists.now.old.now in
    let new = c.args.lists.now.new.now in
    let rules = c.args.lists.now.asked.rules in
    record {
      rules = c.requires.lists.rules;
      asked = c.requires.lists.asked;
      listed = c.requires.rows.listed;
      from = judges_of rules old new c.args.rows.now.clients c.args.direction
          c.args.rows.now.old.items c.in_ok-old.old c.requires.rows.old_rows
          (c.in_ok-old.ensures.rows ∙ (λ i. judging (c.requires.lists.rules i) c.args.direction
          (c.deref.ensures.value i))) c.in_ok-old.ensures.denies;
      to = judges_of rules new old c.args.rows.now.clients c.args.direction
          c.args.rows.now.new.items c.in_ok-new.new c.requires.rows.new_rows
          (c.in_ok-new.ensures.rows ∙ (λ i. judging (c.requires.lists.rules i) c.args.direction
          (c.deref-2.ensures.value i))) c.in_ok-new.ensures.denies;
    }

pub add_gains-requires-2 : goal.add_gains-requires-2
add_gains-requires-2 c =
    let old = c.args.lists.now.old.now in
    let new = c.args.lists.now.new.now in
    let rules = c.args.lists.now.asked.rules in
    record {
      rules = c.requires.lists.rules;
      asked = c.requires.lists.asked;
      listed = c.requires.rows.listed;
      from = judges_of rules new old c.args.rows.now.clients c.args.direction
          c.args.rows.now.new.items c.in_ok-new.new c.requires.rows.new_rows
          (c.in_ok-new.ensures.rows ∙ (λ i. judging (c.requires.lists.rules i) c.args.direction
          (c.deref-2.ensures.value i))) c.in_ok-new.ensures.denies;
      to = judges_of rules old new c.args.rows.now.clients c.args.direction
          c.args.rows.now.old.items c.in_ok-old.old c.requires.rows.old_rows
          (c.in_ok-old.ensures.rows ∙ (λ i. judging (c.requires.lists.rules i) c.args.direction
          (c.deref.ensures.value i))) c.in_ok-old.ensures.denies;
    }

pub returns-clause-shown : goal.returns-clause-shown
returns-clause-shown c =
    shows_ways c.args.lists.now c.args.rows.now.clients c.args.direction
    c.add_gains-2.new.report.differences.items
    (shows_kept c.args.lists.now c.args.rows.now.clients Gained c.args.direction
    c.add_gains.new.report.differences.items c.add_gains-2.new.report.differences.items
    c.in_ok-add_gains-2.ensures.grows c.in_ok-add_gains.ensures.shown)
    c.in_ok-add_gains-2.ensures.shown
