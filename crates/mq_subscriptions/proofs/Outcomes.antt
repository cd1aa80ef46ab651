-- What follows from either outcome.
use Rattle.std.proofs.Common.{◌≡◌, Result, Ok, Err, OnOk, OnErr, refl, Ordering, Less, Equal}
use Rattle.std.proofs.Common.{Greater}

pub by_outcome : {X E A B P : Type 0} (r : Result X E) → OnOk r A → OnErr r B → (A → P) → (B → P)
    → P
by_outcome (Ok x) a b f g = f a
by_outcome (Err e) a b f g = g b

-- an ordering, with what it says
pub pick_order : (r : Ordering) {P : Type 0} → (r ≡ Less → P) → (r ≡ Equal → P)
    → (r ≡ Greater → P) → P
pick_order Less f g h = f refl
pick_order Equal f g h = g refl
pick_order Greater f g h = h refl
