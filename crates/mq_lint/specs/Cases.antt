-- A row of a list, for clients of one class.
use Rattle.std.specs.Prelude.{◌≡◌, ℕ, Bool, true, false, List, [], ◌∷◌, ◌++◌, ◌&&◌, ◌==◌, not}
use Rattle.std.specs.Prelude.{◌<◌, Option, All, Contains, if◌then◌else◌, nat_lt}
use Rattle.std.specs.Prelude.{length, map, slice_index_or}
use Rattle.std.specs.List.{filter, list_all, list_any}
use Rattle.mq_acl.specs.AccessLists.{allow_by}
use Rattle.mq_acl.specs.declared.rules.Rules.{Rules}
use Rattle.mq_acl.specs.declared.rules.Rules.TheVariants.{Own, Mosquitto}
use Rattle.mq_acl.specs.Access.{applies, concerns, grants, is_deny}
use Rattle.mq_acl.specs.Lines.{Access, Write}
use Rattle.mq_acl.specs.Rows.{AclRow, Everyone, Who}
use Rattle.mq_acl.specs.RowsByOwner.{is_everyones}
use Rattle.mq_acl.specs.Views.{row_view, row_views}
use Rattle.mq_acl.specs.declared.access.Direction.{Direction}
use Rattle.mq_acl.specs.declared.access.Direction.TheVariants.{Reading, Writing}
use Rattle.mq_acl.specs.declared.row.Row.{Row}
use Rattle.mq_witness.specs.Asked.{AskedRows, is_client_of}
use Rattle.mq_witness.specs.Clients.{name_passes}
use Rattle.mq_witness.specs.Rows.{is_user_of}
use Rattle.mq_witness.specs.Ruled.{IsShownBy, decides_by}
use Rattle.mq_shapes.specs.declared.clients.Clients.{Clients}
use Rattle.mq_witness.specs.declared.topics.Topics.{Topics}
use Rattle.mq_witness.specs.declared.topics.Topics.TheVariants.{Open}
use Rattle.mq_differences.specs.ByOwner.{everyones, is_own, own_rows}
use Rattle.mq_differences.specs.Classes.{can_be_user}
use Rattle.mq_differences.specs.Marks.{views_of}
use Rattle.mq_differences.specs.Questions.{IsPoint}
use Rattle.mq_differences.specs.Ranks.{is_judge, rank}
use Rattle.mq_differences.specs.declared.by_owner.ByOwner.{ByOwner}
use Rattle.mq_differences.specs.declared.marks.Marked.{Marked}
use Rattle.mq_lint.specs.Needless.{Differ, Meet, granted_access, is_among, same_row, without}

-- ---- a question
-- a row of the list says the same
abbrev pub has_row : AclRow → List AclRow → Bool
has_row row rows = list_any (λ r. same_row r row) rows

-- the rules are the list's, the user name that is asked about is one that a row names, and the row is
-- one of the list
pub record CanAsk (rules : Rules) (asked : AskedRows) (clients : Clients) (row : AclRow)
    : Type 0 where
  pub rules_are : rules ≡ asked.rules
  pub listed : name_passes (λ u. is_user_of u asked.rows) clients ≡ true
  pub inside : has_row row asked.rows ≡ true

-- of a client that is asked about, each first row concerns one of these topics and no other does
pub record Finds (topics : Topics) (asked : AskedRows) (clients : Clients)
    (must cover : List AclRow) : Type 0 where
  pub client : List ℕ
  pub user : Option (List ℕ)
  pub name : List ℕ
  pub shown : IsShownBy topics asked clients must cover client user name

-- of no client that is asked about does each first row concern one of them and no other
abbrev pub FindsNone : Topics → AskedRows → Clients → (must cover : List AclRow) → Type 0
FindsNone topics asked clients must cover = (client name : List ℕ) (user : Option (List ℕ))
    → IsPoint topics asked clients client user name
    → decides_by asked.rules client user name must cover ≡ false

-- ---- the rows that are left
-- a row is marked as out if it is among these
abbrev pub AreOut : List Row → (called : List AclRow) → List Bool → Type 0
AreOut rows called out = out ≡ map (λ r. is_among called (row_view r)) rows

pub record IsMarked (rows : List Row) (m : Marked) : Type 0 where
  pub in_range : m.place < length rows
  pub is : (d : Row) → m.row.now ≡ slice_index_or rows m.place d

-- each is the row at its place
abbrev pub AreMarked : List Row → List Marked → Type 0
AreMarked rows all = All (IsMarked rows) all

-- ---- the other rows
-- the rows for all clients and those for these alone, but for those that say the same as this one
abbrev pub others_of : Clients → AclRow → List AclRow → List AclRow
others_of clients row rows = without row (filter (λ r. is_everyones r.who) rows)
    ++ without row (filter (λ r. is_own clients r.who) rows)

-- it may decide about the direction, and does before rows of this rank
abbrev pub is_before : Rules → Direction → ℕ → AclRow → Bool
is_before rules direction place row = is_judge direction row && nat_lt (rank rules row) place

-- it may decide about the direction, and is of this rank
abbrev pub is_at : Rules → Direction → ℕ → AclRow → Bool
is_at rules direction place row = is_judge direction row && (rank rules row == place)

abbrev pub before : Rules → Direction → ℕ → List AclRow → List AclRow
before rules direction place rows = filter (is_before rules direction place) rows

-- ---- what the list with these rows allows without the row
-- some client may do something else
abbrev pub IsNeeded : AskedRows → List AclRow → AclRow → Type 0
IsNeeded asked rows row = Differ asked.rules rows (without row rows)

-- these clients may do the same, in this direction
abbrev pub IsNeedlessIn : AskedRows → List AclRow → Clients → AclRow → Direction → Type 0
IsNeedlessIn asked rows clients row direction = (client name : List ℕ) (user : Option (List ℕ))
    → IsPoint (Open direction) asked clients client user name
    → allow_by asked.rules rows client user name direction
    ≡ allow_by asked.rules (without row rows) client user name direction

-- these clients may do the same
abbrev pub IsNeedlessTo : AskedRows → List AclRow → Clients → AclRow → Type 0
IsNeedlessTo asked rows clients row =
    (direction : Direction) → IsNeedlessIn asked rows clients row direction

-- none of these that passes the test concerns one of these topics that the row does and no row of the
-- cover, for a client that is asked about
abbrev pub NoneMeets : Topics → AskedRows → Clients → AclRow → (AclRow → Bool)
    → (cover others : List AclRow) → Type 0
NoneMeets topics asked clients row test cover others =
    All (λ r. test r ≡ true → FindsNone topics asked clients (row ∷ (r ∷ [])) cover) others

-- where rows of this rank would decide, the row doesn't before they do
abbrev pub NoneAt : AskedRows → List AclRow → Clients → AclRow → Direction → ℕ → Type 0
NoneAt asked rows clients row direction place = NoneMeets (Open direction) asked clients row
    (is_at asked.rules direction place)
    (before asked.rules direction place (others_of clients row rows))
    (others_of clients row rows)

-- it does: before one of that rank, and where no row decides before that one
pub record Precedes (asked : AskedRows) (rows : List AclRow) (clients : Clients) (row : AclRow)
    (direction : Direction) (place : ℕ) : Type 0 where
  pub other : AclRow
  pub inside : Contains (others_of clients row rows) other
  pub is_of : is_at asked.rules direction place other ≡ true
  pub finds : Finds (Open direction) asked clients (row ∷ (other ∷ []))
      (before asked.rules direction place (others_of clients row rows))

-- the row grants, and concerns a topic about which no other decides
pub record GrantsAlone (asked : AskedRows) (rows : List AclRow) (clients : Clients) (row : AclRow)
    (direction : Direction) : Type 0 where
  pub grants_it : is_deny row.access ≡ false
  pub finds : Finds (Open direction) asked clients (row ∷ [])
      (before asked.rules direction 4 (others_of clients row rows))

-- if it grants, another decides wherever it does
abbrev pub GrantsNone : AskedRows → List AclRow → Clients → AclRow → Direction → Type 0
GrantsNone asked rows clients row direction = is_deny row.access ≡ false
    → FindsNone (Open direction) asked clients (row ∷ []) (before asked.rules direction 4 (others_of clients row rows))

-- it grants
abbrev pub permits : AclRow → Bool
permits row = not (is_deny row.access)

-- a row that grants concerns a topic that this one does
pub record MeetsGrant (rules : Rules) (rows : List AclRow) (row : AclRow) : Type 0 where
  pub other : AclRow
  pub inside : Contains rows other
  pub grants_it : is_deny other.access ≡ false
  pub meets : Meet rules row other

-- ---- the classes of a row
-- each client that the row may concern is of one of these classes, and rows name their user names
pub record AreClasses (asked : AskedRows) (who : Who) (classes : List Clients) : Type 0 where
  pub covers : (user : Option (List ℕ)) → can_be_user user ≡ true → applies user who ≡ true
      → list_any (λ c. is_client_of asked c user) classes ≡ true
  pub listed : list_all (name_passes (λ u. is_user_of u asked.rows)) classes ≡ true

-- ---- a list
pub record IsLint (rules : Rules) (rows : List Row) (asked : AskedRows) (by_owner : ByOwner)
    (classes : List Clients) : Type 0 where
  pub rules_are : rules ≡ asked.rules
  pub rows_are : asked.rows ≡ row_views rows
  pub classes_are : AreClasses asked Everyone classes
  pub everyones_are : views_of (everyones by_owner) ≡ filter (λ r. is_everyones r.who) asked.rows
  pub own_are : (clients : Clients) → views_of (own_rows clients by_owner)
      ≡ filter (λ r. is_own clients r.who) asked.rows
  pub everyones_marked : AreMarked rows (everyones by_owner)
  pub own_marked : (clients : Clients) → AreMarked rows (own_rows clients by_owner)

-- ---- a row that makes another needless
-- taken for a row that grants, it grants this direction
abbrev pub would_grant : Direction → Access → Bool
would_grant direction access = grants direction (granted_access access)

-- one that it does
abbrev pub granted_in : Access → Direction
granted_in Write = Writing
granted_in access = Reading

-- the row that is to concern whatever another grants in the direction
abbrev pub maker_cover : Direction → AclRow → List AclRow
maker_cover direction other = if would_grant direction other.access then other ∷ [] else []

-- taken for rows that grant, the row grants these clients something in the direction that the other doesn't
pub record AddsIn (asked : AskedRows) (clients : Clients) (row other : AclRow)
    (direction : Direction) : Type 0 where
  pub grants_it : would_grant direction row.access ≡ true
  pub finds : Finds (Open direction) asked clients (row ∷ []) (maker_cover direction other)

abbrev pub AddsNoneIn : AskedRows → Clients → (row other : AclRow) → Direction → Type 0
AddsNoneIn asked clients row other direction = would_grant direction row.access ≡ true
    → FindsNone (Open direction) asked clients (row ∷ []) (maker_cover direction other)

-- in neither direction
abbrev pub AddsNone : AskedRows → (row other : AclRow) → Clients → Type 0
AddsNone asked row other clients =
    (direction : Direction) → AddsNoneIn asked clients row other direction

-- the other row concerns nothing that the row does
abbrev pub MissesRow : Rules → (row other : AclRow) → Type 0
MissesRow Own row other = (client name : List ℕ) (user : Option (List ℕ))
    → concerns client user name row ≡ true → concerns client user name other ≡ false
MissesRow Mosquitto row other = ⊥
