-- The line where the steps were spent.
use Rattle.std.proofs.Common.{◌≡◌, ◌≢◌, ◌⊎◌, ◌++◌, ◌∷◌, [], ℕ, List, inl, inr, sym}
use Rattle.std.specs.Prelude.{Contains}
use Rattle.std.proofs.lemmas.List.Elements.{Contains-push_cases}

-- it is one of the rows', where it isn't that of the filter, which has none
pub of_rows : (lines : List ℕ) (line : ℕ) → Contains (lines ++ 0 ∷ []) line → line ≢ 0
    → Contains lines line
of_rows lines line has some = at (Contains-push_cases lines 0 line has)
  where
    at : Contains lines line ⊎ (0 ≡ line) → Contains lines line
    at (inl is) = is
    at (inr zero) = absurd (some (sym zero))
