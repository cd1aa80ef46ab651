-- Tests of lists.
use Rattle.std.proofs.Common.{◌≡◌, Bool, true, ◌&&◌, ◌||◌, List, [], ◌∷◌, refl}
use Rattle.std.specs.List.{list_all, list_any}
use Rattle.std.proofs.lemmas.Bool.{and_from, and_parts, or_left, or_right}
use Rattle.mq_cover.proofs.TextLemmas.{or_cases}

-- all pass the test that says yes
pub all_pass : {X : Type 0} (xs : List X) → list_all (λ x. true) xs ≡ true
all_pass [] = refl
all_pass (x ∷ xs) = all_pass xs

-- what all pass, all pass by a weaker test
pub all_by : {X : Type 0} (p q : X → Bool) → ((x : X) → p x ≡ true → q x ≡ true) → (xs : List X)
    → list_all p xs ≡ true → list_all q xs ≡ true
all_by p q f [] h = refl
all_by p q f (x ∷ xs) h =
    let parts = and_parts (p x) _ h in
    and_from _ _ (f x parts.0) (all_by p q f xs parts.1)

pub any_by : {X : Type 0} (p q : X → Bool) → ((x : X) → p x ≡ true → q x ≡ true) → (xs : List X)
    → list_any p xs ≡ true → list_any q xs ≡ true
any_by p q f [] h = h
any_by p q f (x ∷ xs) h = or_cases (p x) _ h (λ e. or_left _ _ (f x e))
    (λ e. or_right (q x) _ (any_by p q f xs e))

-- two tests that say the same of what passes a third one
module _ {X : Type 0} (p s t : X → Bool) (same : (x : X) → p x ≡ true → s x ≡ t x) where
  pub all_same : (xs : List X) → list_all p xs ≡ true → list_all s xs ≡ list_all t xs
  all_same [] h = refl
  all_same (x ∷ xs) h =
      let parts = and_parts (p x) _ h in
      λ i. same x parts.0 i && all_same xs parts.1 i

  pub any_same : (xs : List X) → list_all p xs ≡ true → list_any s xs ≡ list_any t xs
  any_same [] h = refl
  any_same (x ∷ xs) h =
      let parts = and_parts (p x) _ h in
      λ i. same x parts.0 i || any_same xs parts.1 i
