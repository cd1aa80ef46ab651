use Rattle.std.proofs.Common.{ℕ, List, Option}
use Rattle.mqroute_acl.specs.Test.{AreNamed, AreRead}
use Rattle.mqroute_acl.proofs.test.read_all.Given as goal

-- the lists so far are read
abbrev pub invariant-loop-list : goal.invariant-loop-list
invariant-loop-list l = (input : Option (List ℕ)) (given : List (List ℕ))
    → AreNamed input given l.lists → AreRead l.rules input given l.all.items
