use Rattle.mq_regions.proofs.CarryLemmas.{back_ok, cut_ok}
use Rattle.mq_regions.proofs.carry.carry.Goals as goal

pub returns-in-Old-clause-carried : goal.returns-in-Old-clause-carried
returns-in-Old-clause-carried c =
    rw (c.in-Old.is, c.in-Renamed.is)
    (cut_ok c.in-Renamed.rename c.args.filter.now c.cut.result c.cut.ensures.same
    c.cut.ensures.long)

pub returns-in-New-clause-carried : goal.returns-in-New-clause-carried
returns-in-New-clause-carried c =
    rw (c.in-New.is, c.in-Renamed.is)
    (back_ok c.in-Renamed.rename c.args.filter.now c.back.result c.back.ensures.rule
    c.back.ensures.same c.back.ensures.renamed c.back.ensures.long)
