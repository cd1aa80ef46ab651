-- What is left of filters behind one more level.
use Rattle.std.proofs.Common.{◌≡◌, ℕ, Bool, true, false, ◌||◌, List, [], ◌∷◌, ap}
use Rattle.std.proofs.Common.{◌∙◌, ◌<◌, ◌+◌, length}
use Rattle.std.proofs.Common.{get_or, take}
use Rattle.std.specs.List.{list_all, list_any}
use Rattle.std.proofs.lemmas.Grind.{take_at_read}
use Rattle.std.proofs.lemmas.List.Folds.{list_any-append}
use Rattle.std.proofs.Math.Bool.{or-false}
use Rattle.mq_cover.specs.Remainders.{MarkLevels, covers, remainders_fit, marks_pass}
use Rattle.mq_cover.specs.declared.remainder.Remainder.{Remainder}

-- what is left of the first filters, all of which go on with the level
pub record IsLeftOfAll (done all : List Remainder) (marks : MarkLevels) (level : List ℕ)
    (left : List Remainder) : Type 0 where
  pub covered : (ls : List (List ℕ))
      → list_all (covers marks (level ∷ ls)) done ≡ list_all (covers marks ls) left
  pub fit : (p : List ℕ → Bool) → marks_pass p marks ≡ true → remainders_fit p all ≡ true
      → remainders_fit p left ≡ true

-- what is left of those of the first filters that go on with the level
pub record IsLeftOfEach (done all : List Remainder) (marks : MarkLevels) (level : List ℕ)
    (left : List Remainder) : Type 0 where
  pub covered : (ls : List (List ℕ))
      → list_any (covers marks (level ∷ ls)) done ≡ list_any (covers marks ls) left
  pub fit : (p : List ℕ → Bool) → marks_pass p marks ≡ true → remainders_fit p all ≡ true
      → remainders_fit p left ≡ true

-- one more is passed over, which covers no name that goes on with the level
pub skip : (rs : List Remainder) (i : ℕ) (d : Remainder) (marks : MarkLevels) (level : List ℕ)
    (left : List Remainder) → i < length rs
    → ((ls : List (List ℕ)) → covers marks (level ∷ ls) (get_or rs i d) ≡ false)
    → IsLeftOfEach (take i rs) rs marks level left
    → IsLeftOfEach (take (i + 1) rs) rs marks level left
skip rs i d marks level left h none b = record {
  covered = λ ls. let test = covers marks (level ∷ ls) in
      ap (list_any test) (take_at_read rs i d h).1
      ∙ list_any-append test (take i rs) (get_or rs i d ∷ [])
      ∙ ap (λ k. list_any test (take i rs) || (k || false)) (none ls)
      ∙ or-false (list_any test (take i rs)) ∙ b.covered ls;
  fit = b.fit;
}
