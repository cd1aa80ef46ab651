-- Texts that no row names: they begin with one that none of its levels begins with.
use Rattle.std.specs.Prelude.{◌≡◌, ◌<◌, ℕ, Bool, true, List, ◌++◌, ◌+◌, map, not, nat_eq}
use Rattle.std.specs.Int.Digits.{digits_of}
use Rattle.std.specs.List.{starts_with}

-- the text doesn't begin with it
abbrev pub is_unlike : List ℕ → List ℕ → Bool
is_unlike prefix text = not (starts_with nat_eq text prefix)

-- the text with this number, from 0: that one, and the number from 1 behind it
abbrev pub fresh_text : List ℕ → ℕ → List ℕ
fresh_text prefix n = prefix ++ map (λ d. 48 + d) (digits_of 10 (n + 1))

-- each of those with a number of 16 bits passes the test
abbrev pub FreshPass : List ℕ → (List ℕ → Bool) → Type 0
FreshPass prefix test = (n : ℕ) → n < 65536 → test (fresh_text prefix n) ≡ true
