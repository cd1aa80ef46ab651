-- What is shown of rows, by themselves and beside others.
use Rattle.std.specs.Prelude.{◌≡◌, ◌<◌, ◌≤◌, ◌++◌, ℕ, List, [], ◌∷◌, Option, Some, None, length}
use Rattle.std.specs.Prelude.{drop, if◌then◌else◌, slice_index_or}
use Rattle.mq_acl.specs.Rows.{AclRow}
use Rattle.mq_acl.specs.Views.{row_view, row_views}
use Rattle.mq_acl.specs.declared.row.Row.{Row}
use Rattle.mq_acl.specs.declared.rules.Rules.{Rules}
use Rattle.mq_lint.specs.Needless.{AllowSame, DeniesNone, Differ, IsKept, IsKind, called_behind}
use Rattle.mq_lint.specs.Needless.{called_of, is_needless, repeated, without, without_all}
use Rattle.mq_lint.specs.declared.remark.RemarkKind.{RemarkKind}
use Rattle.mq_lint.specs.declared.remark.RemarkKind.TheVariants.{Repeats, DeniesNothing}
use Rattle.mq_lint.specs.declared.remark.RemarkKind.TheVariants.{Needless}

-- ---- by themselves
-- without the row, and those that repeat it, the list allows the same
pub record IsSpare (rules : Rules) (rows : List Row) (row : AclRow) : Type 0 where
  pub denies_some : DeniesNone rules rows row → ⊥
  pub alone : AllowSame rules (row_views rows) (without row (row_views rows))

-- this is shown of the row, where it doesn't repeat another
abbrev pub IsAlone : Rules → List Row → AclRow → Option RemarkKind → Type 0
IsAlone rules rows row (Some DeniesNothing) = DeniesNone rules rows row
IsAlone rules rows row (Some (Needless by)) = IsSpare rules rows row
IsAlone rules rows row (Some kind) = ⊥
IsAlone rules rows row None = Differ rules (row_views rows) (without row (row_views rows))

abbrev pub IsFirstUnless : Rules → List Row → AclRow → Option ℕ → Option RemarkKind → Type 0
IsFirstUnless rules rows row (Some line) kind = kind ≡ Some (Repeats line)
IsFirstUnless rules rows row None kind = IsAlone rules rows row kind

-- this is shown of the row at the place
abbrev pub IsFirst : Rules → List Row → ℕ → Row → Option RemarkKind → Type 0
IsFirst rules rows place row kind =
    IsFirstUnless rules rows (row_view row) (repeated rows place (row_view row)) kind

-- this is shown of each row
abbrev pub AreFirst : Rules → List Row → List (Option RemarkKind) → Type 0
AreFirst rules rows kinds = (place : ℕ) (row : Row) (kind : Option RemarkKind)
    → place < length rows
    → IsFirst rules rows place (slice_index_or rows place row) (slice_index_or kinds place kind)

-- ---- beside those that are called needless behind them
-- without the row, and those that repeat it, the list allows the same, and so it does without it and those behind
pub record IsCalled (rules : Rules) (rows : List Row) (behind : List AclRow) (row : AclRow) :
    Type 0 where
  pub spare : IsSpare rules rows row
  pub beside : AllowSame rules (row_views rows) (without_all (behind ++ row ∷ []) (row_views rows))

abbrev pub IsBesideAlone : Rules → List Row → (behind : List AclRow) → AclRow → Option RemarkKind
    → Type 0
IsBesideAlone rules rows behind row (Some DeniesNothing) = DeniesNone rules rows row
IsBesideAlone rules rows behind row (Some (Needless by)) = IsCalled rules rows behind row
IsBesideAlone rules rows behind row (Some kind) = ⊥
IsBesideAlone rules rows behind row None = IsKept rules rows behind row

abbrev pub IsBesideUnless : Rules → List Row → (behind : List AclRow) → AclRow → Option ℕ
    → Option RemarkKind → Type 0
IsBesideUnless rules rows behind row (Some line) kind = kind ≡ Some (Repeats line)
IsBesideUnless rules rows behind row None kind = IsBesideAlone rules rows behind row kind

abbrev pub IsBeside : Rules → List Row → (behind : List AclRow) → ℕ → Row → Option RemarkKind
    → Type 0
IsBeside rules rows behind place row kind =
    IsBesideUnless rules rows behind (row_view row) (repeated rows place (row_view row)) kind

-- those that are called needless, with the row if it is
abbrev pub called_with : List AclRow → AclRow → Option RemarkKind → List AclRow
called_with called row kind = if is_needless kind then called ++ row ∷ [] else called

-- this is shown of each row from the place on, and what is shown by itself of those before; these of them are called
-- needless
pub record CalledFrom (rules : Rules) (rows : List Row) (place : ℕ) (kinds : List (Option RemarkKind))
    (called : List AclRow) : Type 0 where
  pub count : length kinds ≡ length rows
  pub are : called ≡ called_of (drop place rows) (drop place kinds)
  pub same : AllowSame rules (row_views rows) (without_all called (row_views rows))
  pub before : (k : ℕ) (row : Row) (kind : Option RemarkKind) → k < place → k < length rows
      → IsFirst rules rows k (slice_index_or rows k row) (slice_index_or kinds k kind)
  pub behind : (k : ℕ) (row : Row) (kind : Option RemarkKind) → place ≤ k → k < length rows
      → IsBeside rules rows (called_behind k rows kinds) k (slice_index_or rows k row)
      (slice_index_or kinds k kind)

abbrev pub AreCalled : Rules → List Row → List (Option RemarkKind) → List AclRow → Type 0
AreCalled rules rows kinds called = CalledFrom rules rows 0 kinds called

-- ---- all that is shown
pub record AreKinds (rules : Rules) (rows : List Row) (kinds : List (Option RemarkKind)) : Type 0 where
  pub count : length kinds ≡ length rows
  pub each : (place : ℕ) (row : Row) (kind : Option RemarkKind) → place < length rows
      → IsKind rules rows (called_of rows kinds) (called_behind place rows kinds) place
      (slice_index_or rows place row) (slice_index_or kinds place kind)
  pub together : AllowSame rules (row_views rows)
      (without_all (called_of rows kinds) (row_views rows))
