-- What is shown of two lists, difference by difference.
use Rattle.std.specs.Prelude.{◌≡◌, ◌≤◌, ◌-◌, ℕ, Bool, true, false, List, [], ◌∷◌, ◌++◌, All, take}
use Rattle.std.specs.Prelude.{if◌then◌else◌, length, slice_index_or}
use Rattle.std.specs.List.{list_any}
use Rattle.std.specs.Ordering.{is_gt}
use Rattle.std.specs.declared.cmp.Ordering.TheVariants.{Less}
use Rattle.mq_acl.specs.declared.row.Row.{Row}
use Rattle.mq_witness.specs.Asked.{AskedRows}
use Rattle.mq_differences.specs.Classes.{class_order}
use Rattle.mq_differences.specs.Differences.{is_like, IsReal, IsMarked, ShowsOthers, AreApart}
use Rattle.mq_differences.specs.Differences.{AreUnnamed, IsKnown}
use Rattle.mq_differences.specs.declared.difference.Difference.{Difference}

-- one more difference, unless one is shown that is like it
abbrev pub added : List Difference → Difference → List Difference
added shown d = if list_any (λ e. is_like e d) shown then shown else shown ++ d ∷ []

-- it is so, it lists its placeholders, and these stand for others
pub record IsSound (old new : List Row) (asked : AskedRows) (d : Difference) : Type 0 where
  pub real : IsReal asked.rules old new d
  pub marked : IsMarked asked d
  pub unnamed : AreUnnamed asked d
  pub known : IsKnown asked d
  pub stands : ShowsOthers asked.rules old new asked d

-- all are so, and no two alike
pub record IsReport (old new : List Row) (asked : AskedRows)
    (shown : List Difference) : Type 0 where
  pub sound : All (IsSound old new asked) shown
  pub apart : AreApart shown

-- what is shown stays shown, and what is added may be shown
pub record Grows (old new : List Row) (asked : AskedRows) (before after : List Difference)
    : Type 0 where
  pub report : IsReport old new asked before → IsReport old new asked after
  pub kept : (p : Difference → Bool) → list_any p before ≡ true → list_any p after ≡ true

-- the difference at this place is of the last class, and those before it are of classes before it
pub record IsLast (shown : List Difference) (last : ℕ) : Type 0 where
  pub within : last ≤ length shown - 1
  pub before : (d : Difference)
      → All (λ e. class_order e.class (slice_index_or shown last d).class ≡ Less) (take last shown)
  pub none_behind : (d : Difference)
      → All (λ e. is_gt (class_order e.class (slice_index_or shown last d).class) ≡ false) shown
