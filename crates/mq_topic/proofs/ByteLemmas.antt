-- Texts of the same bytes.
use Rattle.std.proofs.Common.{◌≡◌, ℕ, true, List, bytes_eq, refl, sym}
use Rattle.std.specs.Cmp.{both_ways}
use Rattle.std.proofs.lemmas.Slice.Eq.{bytes_eq-Decides}

-- texts that pass the test of bytes are the same text
pub text_is : (a b : List ℕ) → bytes_eq a b ≡ true → a ≡ b
text_is a b e = (bytes_eq-Decides a b).0 e

-- a text passes the test against itself
pub text_itself : (a : List ℕ) → bytes_eq a a ≡ true
text_itself a = (bytes_eq-Decides a a).1 refl

-- the test of two texts says the same in either order
pub text_flip : (a b : List ℕ) → bytes_eq a b ≡ bytes_eq b a
text_flip a b = both_ways _ _
    (λ h. (bytes_eq-Decides b a).1 (sym (text_is a b h)))
    (λ h. (bytes_eq-Decides a b).1 (sym (text_is b a h)))
