use Rattle.std.proofs.Common.{refl, subst, inr}
use Rattle.std.specs.Option.{option_copied}
use Rattle.mq_reach.specs.Reach.{IsListFault}
use Rattle.mq_reach.proofs.FilledLemmas.{user-long}
use Rattle.mq_reach.proofs.patterns.asked_for.Goals as goal

pub returns-in-Err-Line-clause-fault : goal.returns-in-Err-Line-clause-fault
returns-in-Err-Line-clause-fault c =
    let shown = subst (IsListFault c.args.rows.now) c.in-Err-Line.field-0-is
    c.in-Err-Line.ensures.fault in
    inr (
      refl,
      user-long (option_copied c.args.user) c.args.rows.now c.in-Err-Line.field-0-1
          c.requires shown.1,
    )
