use Rattle.std.proofs.Common.{ℕ, List, Option, map}
use Rattle.mqroute_acl.specs.Test.{AreNamed}
use Rattle.mqroute_acl.proofs.test.add_all_named.Given as goal

-- with the texts so far they are still of their files
abbrev pub invariant-loop-file : goal.invariant-loop-file
invariant-loop-file g l = (input : Option (List ℕ))
    → AreNamed input (map (λ other. other.now) l.given) l.initial.lists.items
    → AreNamed input (map (λ other. other.now) l.given) l.lists.items
