use Rattle.mq_acl.specs.declared.access.Direction.TheVariants.{Reading}
use Rattle.mq_differences.proofs.ChangeLemmas.{rows_for, shows_directions, shows_kept}
use Rattle.mq_differences.proofs.changes.add_clients.Goals as goal

pub add_direction-requires-clause-rows : goal.add_direction-requires-clause-rows
add_direction-requires-clause-rows c = record {
  listed = c.requires.listed;
  old_rows = rows_for c.args.lists.now.old.now c.args.lists.now.new.now c.args.lists.now.old_rows
      c.args.clients c.in_ok-old.old.items c.requires.lists.old_rows c.in_ok-old.ensures;
  new_rows = rows_for c.args.lists.now.new.now c.args.lists.now.old.now c.args.lists.now.new_rows
      c.args.clients c.in_ok-new.new.items c.requires.lists.new_rows c.in_ok-new.ensures;
}

pub add_direction-requires-2-clause-rows : goal.add_direction-requires-2-clause-rows
add_direction-requires-2-clause-rows c = record {
  listed = c.requires.listed;
  old_rows = rows_for c.args.lists.now.old.now c.args.lists.now.new.now c.args.lists.now.old_rows
      c.args.clients c.in_ok-old.old.items c.requires.lists.old_rows c.in_ok-old.ensures;
  new_rows = rows_for c.args.lists.now.new.now c.args.lists.now.old.now c.args.lists.now.new_rows
      c.args.clients c.in_ok-new.new.items c.requires.lists.new_rows c.in_ok-new.ensures;
}

pub returns-clause-shown : goal.returns-clause-shown
returns-clause-shown c =
    shows_directions c.args.lists.now c.args.clients c.add_direction-2.new.report.differences.items
    (λ way. shows_kept c.args.lists.now c.args.clients way Reading
    c.add_direction.new.report.differences.items c.add_direction-2.new.report.differences.items
    c.in_ok-add_direction-2.ensures.grows (c.in_ok-add_direction.ensures.shown way))
    c.in_ok-add_direction-2.ensures.shown
