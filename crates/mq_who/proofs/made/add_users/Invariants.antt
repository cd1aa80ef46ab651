use Rattle.std.proofs.Common.{◌+◌, ◌||◌, ℕ, Bool, take}
use Rattle.mq_acl.specs.Rows.{Who}
use Rattle.mq_who.specs.Made.{AreMadeFor, is_named_in}
use Rattle.mq_who.proofs.made.add_users.Given as goal

-- the rows of the users so far are added
abbrev pub invariant-loop-user : goal.invariant-loop-user
invariant-loop-user l = (whom : Who → Bool) (most : ℕ)
    → AreMadeFor l.allows l.wanted whom most l.fn.made.items
    → AreMadeFor l.allows l.wanted (λ who. whom who || is_named_in (take l.user-index l.users) who)
    (most + l.user-index) l.made.items
