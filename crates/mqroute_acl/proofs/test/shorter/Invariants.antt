use Rattle.std.proofs.Common.{◌≡◌, map, take}
use Rattle.mqroute_acl.proofs.test.shorter.Given as goal

-- the names so far
abbrev pub invariant-loop-name : goal.invariant-loop-name
invariant-loop-name l =
    map (λ name. name.now) l.all.items ≡ map (λ name. name.now) (take l.name-index l.names)
