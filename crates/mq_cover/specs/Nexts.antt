-- With which level a name may go on, and what is covered of it.
use Rattle.std.specs.Prelude.{◌≡◌, ℕ, Bool, true, false, List, ◌∷◌, ◌&&◌, Option, Some, None}
use denote.Ref.{Bor}
use Rattle.std.specs.Str.{bytes_eq}
use Rattle.mq_cover.specs.Remainders.{MarkLevels, covers, remainder_fits}
use Rattle.mq_cover.specs.declared.remainder.Remainder.{Remainder}
use Rattle.mq_cover.specs.declared.remainder.Next.{Next}
use Rattle.mq_cover.specs.declared.remainder.Next.TheVariants.{Never, Always, At}

-- what is covered of a name that goes on with a level
abbrev pub GoesOn : MarkLevels → Remainder → Next → Type 0
GoesOn marks r Never = (l : List ℕ) (ls : List (List ℕ)) → covers marks (l ∷ ls) r ≡ false
GoesOn marks r (Always next) =
    (l : List ℕ) (ls : List (List ℕ)) → covers marks (l ∷ ls) r ≡ covers marks ls next
GoesOn marks r (At level next) = (l : List ℕ) (ls : List (List ℕ))
    → covers marks (l ∷ ls) r ≡ (bytes_eq l level.now && covers marks ls next)

-- it goes on with the level that a mark stands for, if any
abbrev pub at_mark : Option (Bor (List ℕ)) → Remainder → Next
at_mark None next = Never
at_mark (Some level) next = At level next

abbrev pub NextFits : (List ℕ → Bool) → Next → Type 0
NextFits p Never = Unit {0}
NextFits p (Always next) = remainder_fits p next ≡ true
NextFits p (At level next) = (p level.now ≡ true) × (remainder_fits p next ≡ true)
