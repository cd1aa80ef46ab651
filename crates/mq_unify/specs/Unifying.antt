-- What bindings say once terms have to agree.
use Rattle.std.specs.Prelude.{◌≡◌, ℕ, Bool, true, List}
use Rattle.mq_unify.specs.Bindings.{Holds, bindings_fit}
use Rattle.mq_unify.specs.declared.binding.Binding.{Binding}

-- of texts that are as the older bindings have it: where they pass the first test they are as the later
-- ones have it, and what is left is the second test; and the other way round
pub record IsUnifying (older later : List Binding) (whole left : (ℕ → List ℕ) → Bool)
    (fits : (List ℕ → Bool) → Bool) : Type 0 where
  pub forth : (values : ℕ → List ℕ) → Holds values older → whole values ≡ true
      → Holds values later × (left values ≡ true)
  pub back : (values : ℕ → List ℕ) → Holds values later → left values ≡ true
      → Holds values older × (whole values ≡ true)
  pub unlike : (test : List ℕ → Bool) → fits test ≡ true → bindings_fit test older ≡ true
      → bindings_fit test later ≡ true

-- nothing is left
abbrev pub IsUnified : (older later : List Binding) → ((ℕ → List ℕ) → Bool)
    → ((List ℕ → Bool) → Bool) → Type 0
IsUnified older later whole fits = IsUnifying older later whole (λ values. true) fits
