use Rattle.std.proofs.Common.{◌≡◌, ◌++◌, ℕ, List, length}
use Rattle.mq_acl.specs.Filled.{filled}
use Rattle.mq_acl.proofs.filled.Names.strip.Given as goal

-- what is taken of both texts is the same
abbrev pub invariant-loop-piece : goal.invariant-loop-piece
invariant-loop-piece l =
    let client = l.fn.self.client.now in
    let user = l.fn.self.user.now in
    (taken : List ℕ)
    × (filled client user l.fn.level ≡ taken ++ filled client user l.rest)
    × (l.fn.name ≡ taken ++ l.left)

abbrev pub decreases-loop-piece : goal.decreases-loop-piece
decreases-loop-piece l = length l.rest
