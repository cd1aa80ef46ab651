-- What is left of a list, one item less.
use Rattle.std.proofs.Common.{◌≡◌, ◌<◌, ◌+◌, ℕ, suc, Bool, false, ◌||◌, List, ◌∷◌}
use Rattle.std.proofs.Common.{length, drop, get_or, ap, sym, ◌∙◌, add-one, drop-cons}
use Rattle.std.specs.List.{list_any}
use Rattle.std.proofs.Math.Bool.{or_assoc}
use Rattle.std.proofs.lemmas.Bool.{or_parts}

module _ {A : Type 0} (p : A → Bool) (xs : List A) (i : ℕ) (x : A) (low : i < length xs)
    (is : x ≡ get_or xs i x) where
  one_less : drop i xs ≡ x ∷ drop (i + 1) xs
  one_less = rw add-one (drop-cons xs i x low ∙ ap (λ y. y ∷ drop (suc i) xs) (sym is))

  -- what the items that are left add, where this one is added
  pub left_more : (before after first : Bool) → after ≡ (before || p x)
      → (before || list_any p (drop i xs)) ≡ first
      → (after || list_any p (drop (i + 1) xs)) ≡ first
  left_more before after first e f =
      ap (λ b. b || list_any p (drop (i + 1) xs)) e
      ∙ or_assoc before (p x) (list_any p (drop (i + 1) xs))
      ∙ ap (λ ls. before || list_any p ls) (sym one_less) ∙ f

  -- none of those that are left passes
  pub left_none : list_any p (drop i xs) ≡ false → list_any p (drop (i + 1) xs) ≡ false
  left_none f = (or_parts (p x) (list_any p (drop (i + 1) xs))
      (sym (ap (list_any p) one_less) ∙ f)).1
