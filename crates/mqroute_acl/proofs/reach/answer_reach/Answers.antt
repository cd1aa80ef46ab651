use Rattle.mqroute_acl.proofs.reach.answer_reach.Goals as goal

pub returns-in-Of-clause-ok : goal.returns-in-Of-clause-ok
returns-in-Of-clause-ok g c = rw c.in-Of.is c.answer_reach_one.ensures.ok

pub returns-in-Of-clause-unread : goal.returns-in-Of-clause-unread
returns-in-Of-clause-unread g c = c.answer_reach_one.ensures.unread

pub returns-in-OfAny-clause-ok : goal.returns-in-OfAny-clause-ok
returns-in-OfAny-clause-ok g c = rw c.in-OfAny.is c.answer_reach_any.ensures.ok

pub returns-in-OfAny-clause-unread : goal.returns-in-OfAny-clause-unread
returns-in-OfAny-clause-unread g c = c.answer_reach_any.ensures.unread

pub returns-in-In-clause-ok : goal.returns-in-In-clause-ok
returns-in-In-clause-ok g c = rw c.in-In.is c.answer_reach_all.ensures.ok

pub returns-in-In-clause-unread : goal.returns-in-In-clause-unread
returns-in-In-clause-unread g c = c.answer_reach_all.ensures.unread
