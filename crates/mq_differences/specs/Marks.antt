-- Rows of a list that another list is known to have too.
use Rattle.std.specs.Prelude.{◌≡◌, ◌<◌, ℕ, Bool, true, false, List, ◌&&◌, length, map, slice_index_or}
use Rattle.std.specs.List.{list_any}
use Rattle.std.specs.Str.{bytes_eq}
use Rattle.mq_acl.specs.Lines.{Access, Read, Write, ReadWrite, Deny}
use Rattle.mq_acl.specs.Rows.{Who, Anonymous, Named, Everyone, AclRow}
use Rattle.mq_acl.specs.Views.{row_view, row_views}
use Rattle.mq_acl.specs.declared.row.Row.{Row}
use Rattle.mq_differences.specs.declared.marks.Marked.{Marked}

abbrev pub rows_of : List Marked → List Row
rows_of all = map (λ m. m.row.now) all

abbrev pub views_of : List Marked → List AclRow
views_of all = row_views (rows_of all)

abbrev pub same_who : Who → Who → Bool
same_who Anonymous Anonymous = true
same_who (Named name) (Named other) = bytes_eq name other
same_who Everyone Everyone = true
same_who who other = false

-- the second access denies if the first does, and else grants what that grants
abbrev pub grants_all : Access → Access → Bool
grants_all Deny Deny = true
grants_all Read Read = true
grants_all Read ReadWrite = true
grants_all Write Write = true
grants_all Write ReadWrite = true
grants_all ReadWrite ReadWrite = true
grants_all access other = false

-- the other row is for the same clients, with the same filter, and does as much
abbrev pub does_as_much : AclRow → AclRow → Bool
does_as_much row other = same_who row.who other.who && grants_all row.access other.access
    && bytes_eq row.filter other.filter

abbrev pub has_twin : List AclRow → AclRow → Bool
has_twin others row = list_any (does_as_much row) others

-- where it is marked, the other list does have one that does as much
abbrev pub IsKept : List AclRow → Marked → Type 0
IsKept others m = m.kept ≡ true → has_twin others (row_view m.row.now) ≡ true

-- each has its place
abbrev pub ArePlaced : List Marked → Type 0
ArePlaced all = (k : ℕ) (m : Marked) → k < length all → (slice_index_or all k m).place ≡ k
