-- Truth values.
use Rattle.std.proofs.Common.{◌≡◌, Bool, true, false, ◌||◌, refl}

-- a test, with what it says
pub pick : (b : Bool) {P : Type 0} → (b ≡ true → P) → (b ≡ false → P) → P
pick true t f = t refl
pick false t f = f refl

-- the same test twice says no more than once
pub or_again : (a b : Bool) → (a || b) ≡ (a || (a || b))
or_again true b = refl
or_again false b = refl
