use Rattle.std.proofs.Common.{◌≡◌, drop}
use Rattle.mq_unify.specs.Bindings.{bound}
use Rattle.mq_unify.proofs.binding.Bindings.level.Given as goal

-- the bindings that are left do with the level what all do with the first one
abbrev pub invariant-loop-binding : goal.invariant-loop-binding
invariant-loop-binding l =
    bound (drop l.binding-index l.self.bindings.items) l.level ≡ bound l.self.bindings.items l.fn.level
