-- The level that a walk goes on with.
use Rattle.std.specs.Prelude.{◌≡◌, ℕ, Bool, true, false, List, ◌∷◌, ◌&&◌, Option, Some, None}
use denote.Ref.{Bor}
use Rattle.std.specs.List.{list_all}
use Rattle.mq_cover.specs.Names.{fits_start, suits, is_choice, is_name_level}
use Rattle.mq_cover.specs.Remainders.{MarkLevels, covers, hits, marks_pass}
use Rattle.mq_cover.specs.Remainders.{remainders_fit}
use Rattle.mq_cover.specs.declared.others.Others.{Others}
use Rattle.mq_cover.specs.declared.remainder.Remainder.{Remainder}
use Rattle.mq_cover.specs.declared.start.Start.{Start}
use Rattle.mq_cover.specs.declared.start.Start.TheVariants.{Dollar, Readable, Writable}

-- the level that stands for all that are not named
abbrev pub other_at : Start → Others → List ℕ
other_at Dollar others = others.dollar.now
other_at Readable others = others.dollar.now
other_at Writable others = others.dollar.now
other_at start others = others.plain.now

-- the levels that stand for others pass the test, and so do those of the marks
abbrev pub known_pass : (List ℕ → Bool) → MarkLevels → Others → Bool
known_pass p marks others = p others.plain.now && p others.dollar.now && marks_pass p marks

-- a name may go on with this level, and goes no worse by it than by any other: where one is hit,
-- the one with this level in its place is hit too, whichever the others are that must not cover it
pub record IsBest (start : Start) (marks : MarkLevels) (others : Others) (must : List Remainder)
    (level : List ℕ) : Type 0 where
  pub fit : fits_start start level ≡ true
  pub valid : is_name_level level ≡ true
  pub best : (cover : List Remainder) → remainders_fit (is_choice others) cover ≡ true
      → (l : List ℕ) (ls : List (List ℕ)) → suits start (l ∷ ls) ≡ true
      → hits marks (l ∷ ls) must cover ≡ true
      → (suits start (level ∷ ls) ≡ true) × (hits marks (level ∷ ls) must cover ≡ true)

-- the level is the best one; there is none only where no name that goes on is covered by each
abbrev pub IsBestIfAny : Start → MarkLevels → Others → List Remainder → Option (Bor (List ℕ))
    → Type 0
IsBestIfAny start marks others must None = (l : List ℕ) (ls : List (List ℕ))
    → suits start (l ∷ ls) ≡ true → list_all (covers marks (l ∷ ls)) must ≡ false
IsBestIfAny start marks others must (Some level) = IsBest start marks others must level.now
