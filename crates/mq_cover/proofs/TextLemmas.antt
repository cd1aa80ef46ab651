-- Texts that are the same, and tests of them.
use Rattle.std.proofs.Common.{◌≡◌, Bool, true, false, ◌||◌}
use Rattle.std.proofs.Common.{refl, sym, ◌∙◌}

-- what follows from each of two tests follows where one of them passes
pub or_cases : {A : Type 0} (a b : Bool) → (a || b) ≡ true → (a ≡ true → A) → (b ≡ true → A) → A
or_cases true b e f g = f refl
or_cases false b e f g = g e

-- a test that would make another pass fails where that one fails
pub false_is : (a b : Bool) → (a ≡ true → b ≡ true) → b ≡ false → a ≡ false
false_is true b f e = sym (f refl) ∙ e
false_is false b f e = refl
