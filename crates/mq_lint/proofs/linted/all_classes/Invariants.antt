use Rattle.std.proofs.Common.{◌≡◌, ◌∷◌, take}
use Rattle.std.specs.Prelude.{map}
use Rattle.mq_shapes.specs.declared.clients.Clients.TheVariants.{Anonymous, Named, Others}
use Rattle.mq_lint.proofs.linted.all_classes.Given as goal

-- those of the first user names
abbrev pub invariant-loop-user : goal.invariant-loop-user
invariant-loop-user l = l.all.items
    ≡ Others ∷ (Anonymous ∷ map (λ user. Named user) (take l.user-index l.users))
