use Rattle.mq_ask_who.proofs.ReachAnyLemmas.{some_may}
use Rattle.mq_ask_who.proofs.reach_any.outcome_of.Goals as goal

pub returns-in-Some : goal.returns-in-Some
returns-in-Some c rules rows user wanted found =
    some_may rules rows user wanted c.in-Some.field-0 (rw c.in-Some.is at found)
