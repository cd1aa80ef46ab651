use Rattle.std.proofs.Common.{List, subst, sym}
use Rattle.mq_differences.specs.declared.difference.Difference.{Difference}
use Rattle.mq_who.specs.Who.{IsListing}
use Rattle.mq_who.specs.Faults.{IsWhoFault}
use Rattle.mq_who.specs.declared.fault.WhoFault.{WhoFault}
use Rattle.mq_who.proofs.FaultLemmas.{fault_is}
use Rattle.mq_who.proofs.ListingLemmas.{listing}
use Rattle.mq_who.proofs.permissions.changes.Goals as goal

pub returns-in_ok-decided-in-Ok-clause-listing : goal.returns-in_ok-decided-in-Ok-clause-listing
returns-in_ok-decided-in-Ok-clause-listing c allows wanted m =
    subst (λ (all : List Difference). IsListing c.args.rules allows c.args.rows.now wanted all)
    (sym c.in_ok-decided-in-Ok.ensures)
    (listing c.args.rules allows c.args.rows.now wanted c.args.made.now m c.in-Ok.differences.items
    c.in-Ok.ensures.every c.in-Ok.ensures.real c.in-Ok.ensures.once
    c.in-Ok.ensures.marked)

pub returns-in-Err-clause-fault : goal.returns-in-Err-clause-fault
returns-in-Err-clause-fault c allows wanted m short levels_short =
    subst (λ (fault : WhoFault). IsWhoFault c.args.rules c.args.rows.now wanted c.args.steps fault)
    (sym c.fault_of.ensures)
    (fault_is c.args.rules allows c.args.rows.now wanted c.args.made.now m c.args.steps
    c.in-Err.fault short levels_short c.in-Err.ensures.fault)
