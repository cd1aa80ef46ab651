use Rattle.std.proofs.Common.{Contains, ap, ◌∙◌, sym, subst}
use Rattle.mq_acl.specs.Views.{line_views}
use Rattle.mq_differences.specs.Faults.{rows_of}
use Rattle.mq_differences.proofs.ContainLemmas.{line_contained, side_rows}
use Rattle.mq_differences.proofs.gains.give_up.Goals as goal

pub returns : goal.returns
returns c =
    let old = c.args.question.now.lists.now.old.now in
    let new = c.args.question.now.lists.now.new.now in (
      subst (λ rows. Contains (line_views rows) c.args.row.now.line)
          (side_rows c.args.question.now.way old new ∙ ap (rows_of old new) (sym c.side_with.ensures))
          (line_contained c.args.question.now c.args.before.now c.args.row.now c.requires.question
          c.requires.split),
      c.requires.limited,
    )
