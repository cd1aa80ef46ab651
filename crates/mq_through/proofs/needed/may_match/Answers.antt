use Rattle.mq_through.proofs.NeededLemmas.{back_unmatched, cut_unmatched, kept_unmatched}
use Rattle.mq_through.proofs.needed.may_match.Goals as goal

pub returns-in-Kept : goal.returns-in-Kept
returns-in-Kept c =
    kept_unmatched c.args.kind.now c.args.filter.now c.meet.result c.may_be.result c.may_be.ensures
    c.args.side c.in-Kept.kept c.in-Kept.is c.meet.ensures.same

pub returns-in-Old : goal.returns-in-Old
returns-in-Old c =
    cut_unmatched c.args.kind.now c.args.filter.now c.cut.result c.may_be-in-Old.result
    c.may_be-in-Old.ensures c.args.side c.in-Renamed.rename c.in-Renamed.is c.in-Old.is
    c.cut.ensures.same

pub returns-in-New : goal.returns-in-New
returns-in-New c =
    back_unmatched c.args.kind.now c.args.filter.now c.back.result c.may_be-in-New.result
    c.may_be-in-New.ensures c.args.side c.in-Renamed.rename c.in-Renamed.is c.in-New.is
    c.back.ensures.same
