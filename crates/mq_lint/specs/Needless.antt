-- Lines without which a list allows the same.
use Rattle.std.specs.Prelude.{◌≡◌, ◌≢◌, ◌⊎◌, ◌<◌, ◌+◌, ◌++◌, drop, ℕ, Bool, true, false, List, [], ◌∷◌, ◌&&◌, ◌||◌, not}
use Rattle.std.specs.Prelude.{length, slice_index_or, take, find, Option, Some, None, nat_lt}
use Rattle.std.specs.Prelude.{if◌then◌else◌}
use Rattle.std.specs.List.{filter, filter_map, list_any, zip}
use Rattle.std.specs.Option.{option_map}
use Rattle.std.specs.Str.{bytes_eq}
use Rattle.mq_topic.specs.Texts.{is_name}
use Rattle.mq_acl.specs.AccessLists.{allow_by, concerns_by}
use Rattle.mq_acl.specs.declared.rules.Rules.{Rules}
use Rattle.mq_acl.specs.Access.{is_deny}
use Rattle.mq_acl.specs.Lines.{Access, Read, Write, ReadWrite, Deny}
use Rattle.mq_acl.specs.Rows.{AclRow}
use Rattle.mq_acl.specs.Views.{row_view, row_views}
use Rattle.mq_acl.specs.declared.access.Direction.{Direction}
use Rattle.mq_acl.specs.declared.row.Row.{Row}
use Rattle.mq_witness.specs.Clients.{can_be_id}
use Rattle.mq_differences.specs.Classes.{can_be_user}
use Rattle.mq_differences.specs.Marks.{same_who}
use Rattle.mq_differences.specs.Ranks.{rank}
use Rattle.mq_lint.specs.declared.remark.Remark.{Remark}
use Rattle.mq_lint.specs.declared.remark.RemarkKind.{RemarkKind}
use Rattle.mq_lint.specs.declared.remark.RemarkKind.TheVariants.{Repeats, DeniesNothing}
use Rattle.mq_lint.specs.declared.remark.RemarkKind.TheVariants.{Needless}

-- ---- what lists allow
-- a client that a broker can have
abbrev pub is_client : List ℕ → Option (List ℕ) → Bool
is_client client user = can_be_id client && can_be_user user

-- by these rules all clients may do the same by both
abbrev pub AllowSame : Rules → (one other : List AclRow) → Type 0
AllowSame rules one other = (client name : List ℕ) (user : Option (List ℕ))
    (direction : Direction) → is_client client user ≡ true → is_name name ≡ true
    → allow_by rules one client user name direction
    ≡ allow_by rules other client user name direction

-- some client may do by the one list what it may not by the other
pub record Differ (rules : Rules) (one other : List AclRow) : Type 0 where
  pub client : List ℕ
  pub user : Option (List ℕ)
  pub name : List ℕ
  pub direction : Direction
  pub fits : is_client client user ≡ true
  pub valid : is_name name ≡ true
  pub differs : allow_by rules one client user name direction
      ≢ allow_by rules other client user name direction

-- ---- rows that are the same
abbrev pub same_access : Access → Access → Bool
same_access Read Read = true
same_access Write Write = true
same_access ReadWrite ReadWrite = true
same_access Deny Deny = true
same_access access other = false

-- for the same clients, of the same access and filter
abbrev pub same_row : AclRow → AclRow → Bool
same_row row other = same_who row.who other.who && same_access row.access other.access
    && bytes_eq row.filter other.filter

-- the line of the first of the rows before this place that is the same as the one there
abbrev pub repeated : List Row → ℕ → AclRow → Option ℕ
repeated rows place row =
    option_map (λ r. r.line) (find (λ r. same_row (row_view r) row) (take place rows))

-- the rows but for this one, and those that repeat it
abbrev pub without : AclRow → List AclRow → List AclRow
without row rows = filter (λ other. not (same_row other row)) rows

-- it is the same as one of these
abbrev pub is_among : List AclRow → AclRow → Bool
is_among some row = list_any (λ one. same_row row one) some

-- the rows but for these, and those that repeat them
abbrev pub without_all : List AclRow → List AclRow → List AclRow
without_all some rows = filter (λ row. not (is_among some row)) rows

-- ---- rows that meet
-- of some client both concern a topic
pub record Meet (rules : Rules) (one other : AclRow) : Type 0 where
  pub client : List ℕ
  pub user : Option (List ℕ)
  pub name : List ℕ
  pub fits : is_client client user ≡ true
  pub valid : is_name name ≡ true
  pub first : concerns_by rules client user name one ≡ true
  pub second : concerns_by rules client user name other ≡ true

-- it denies, and no row that grants concerns what it concerns
pub record DeniesNone (rules : Rules) (rows : List Row) (row : AclRow) : Type 0 where
  pub denies : is_deny row.access ≡ true
  pub meets_none : (place : ℕ) (d : Row) → place < length rows
      → is_deny (row_view (slice_index_or rows place d)).access ≡ false
      → Meet rules row (row_view (slice_index_or rows place d)) → ⊥

-- ---- what makes a row needless
abbrev pub granted_access : Access → Access
granted_access Deny = ReadWrite
granted_access access = access

-- the row; where it denies, one that grants what it denies
abbrev pub as_grant : AclRow → AclRow
as_grant row = record { who = row.who; access = granted_access row.access; filter = row.filter }

-- both deny, or both grant
abbrev pub says_as : (other row : AclRow) → Bool
says_as other row =
    if is_deny row.access then is_deny other.access else not (is_deny other.access)

-- the other row says the same, or decides before this one
abbrev pub may_make : Rules → (other row : AclRow) → Bool
may_make rules other row = says_as other row || nat_lt (rank rules other) (rank rules row)

-- the other row makes this one needless: it may, and of the two alone, a row that denies taken for
-- one that grants, the one without this row allows the same
pub record MakesNeedless (rules : Rules) (other row : AclRow) : Type 0 where
  pub kind : may_make rules other row ≡ true
  pub same : AllowSame rules (as_grant row ∷ (as_grant other ∷ [])) (as_grant other ∷ [])

-- by itself the row, taken for one that grants, allows nothing: the broker refuses all that it covers,
-- or it covers nothing
abbrev pub AllowsNothing : Rules → AclRow → Type 0
AllowsNothing rules row = AllowSame rules (as_grant row ∷ []) []

-- a row that isn't called needless, nor repeats one that is, makes it needless
pub record IsMaker (rules : Rules) (rows : List Row) (called : List AclRow) (row : AclRow)
    (place line : ℕ) : Type 0 where
  pub other : Row
  pub in_range : place < length rows
  pub is : other ≡ slice_index_or rows place other
  pub line_is : line ≡ other.line
  pub stays : is_among called (row_view other) ≡ false
  pub makes : MakesNeedless rules (row_view other) row

-- none of the rows before this place that aren't called needless does
abbrev pub MakesNone : Rules → List Row → List AclRow → AclRow → ℕ → Type 0
MakesNone rules rows called row n = (place : ℕ) (d : Row) → place < n → place < length rows
    → is_among called (row_view (slice_index_or rows place d)) ≡ false
    → MakesNeedless rules (row_view (slice_index_or rows place d)) row → ⊥

-- the first row that does, of a row that allows something
pub record IsFirstMaker (rules : Rules) (rows : List Row) (called : List AclRow) (row : AclRow)
    (line : ℕ) : Type 0 where
  pub allows : AllowsNothing rules row → ⊥
  pub place : ℕ
  pub maker : IsMaker rules rows called row place line
  pub first : MakesNone rules rows called row place

abbrev pub IsBy : Rules → List Row → List AclRow → AclRow → Option ℕ → Type 0
IsBy rules rows called row (Some line) = IsFirstMaker rules rows called row line
IsBy rules rows called row None = AllowsNothing rules row
    ⊎ MakesNone rules rows called row (length rows)

-- ---- which rows are called needless
abbrev pub is_needless : Option RemarkKind → Bool
is_needless (Some (Needless by)) = true
is_needless kind = false

-- of these rows those that are called so, the last first
abbrev pub called_of : List Row → List (Option RemarkKind) → List AclRow
called_of (row ∷ rows) (kind ∷ kinds) =
    if is_needless kind then called_of rows kinds ++ row_view row ∷ [] else called_of rows kinds
called_of rows kinds = []

-- those of them that stand behind this place
abbrev pub called_behind : ℕ → List Row → List (Option RemarkKind) → List AclRow
called_behind place rows kinds = called_of (drop (place + 1) rows) (drop (place + 1) kinds)

-- ---- what is shown
-- the list allows the same without the row and those that repeat it, and so it does without it and those that are
-- called needless behind it; this makes it so
pub record IsNeedless (rules : Rules) (rows : List Row) (called behind : List AclRow) (row : AclRow)
    (by : Option ℕ) : Type 0 where
  pub denies_some : DeniesNone rules rows row → ⊥
  pub alone : AllowSame rules (row_views rows) (without row (row_views rows))
  pub beside : AllowSame rules (row_views rows) (without_all (behind ++ row ∷ []) (row_views rows))
  pub makes : IsBy rules rows called row by

-- without the row, or without it and those that are called needless behind it, some client may do what
-- it may not by the list, or the other way round
abbrev pub IsKept : Rules → List Row → (behind : List AclRow) → AclRow → Type 0
IsKept rules rows behind row = Differ rules (row_views rows) (without row (row_views rows))
    ⊎ Differ rules (row_views rows) (without_all (behind ++ row ∷ []) (row_views rows))

-- this is shown of a row that doesn't repeat another
abbrev pub IsKindAlone : Rules → List Row → (called behind : List AclRow) → AclRow
    → Option RemarkKind → Type 0
IsKindAlone rules rows called behind row (Some DeniesNothing) = DeniesNone rules rows row
IsKindAlone rules rows called behind row (Some (Needless by)) =
    IsNeedless rules rows called behind row by
IsKindAlone rules rows called behind row (Some kind) = ⊥
IsKindAlone rules rows called behind row None = IsKept rules rows behind row

abbrev pub IsKindUnless : Rules → List Row → (called behind : List AclRow) → AclRow → Option ℕ
    → Option RemarkKind → Type 0
IsKindUnless rules rows called behind row (Some line) kind = kind ≡ Some (Repeats line)
IsKindUnless rules rows called behind row None kind =
    IsKindAlone rules rows called behind row kind

-- this is shown of the row at the place, where these are called needless, and these behind it
abbrev pub IsKind : Rules → List Row → (called behind : List AclRow) → ℕ → Row → Option RemarkKind
    → Type 0
IsKind rules rows called behind place row kind = IsKindUnless rules rows called behind (row_view row)
    (repeated rows place (row_view row)) kind

-- the remarks on the rows of which something is shown, in their order
abbrev pub remarks_of_kinds : List Row → List (Option RemarkKind) → List Remark
remarks_of_kinds rows kinds =
    filter_map (λ shown. option_map (λ kind. record { line = shown.0.line; kind = kind }) shown.1)
    (zip rows kinds)

-- of each row what is shown is so, and each of which nothing is shown is needed; without all that are
-- called needless, and those that repeat them, the list allows the same
pub record AreNeedless (rules : Rules) (rows : List Row) (shown : List Remark) : Type 0 where
  pub kinds : List (Option RemarkKind)
  pub all : length kinds ≡ length rows
  pub each : (place : ℕ) (row : Row) (kind : Option RemarkKind) → place < length rows
      → IsKind rules rows (called_of rows kinds) (called_behind place rows kinds) place
      (slice_index_or rows place row) (slice_index_or kinds place kind)
  pub together : AllowSame rules (row_views rows)
      (without_all (called_of rows kinds) (row_views rows))
  pub remarks : shown ≡ remarks_of_kinds rows kinds
