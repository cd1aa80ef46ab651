-- Rows that are made of others for the topics of a region.
use Rattle.std.specs.Prelude.{◌≡◌, ℕ, Bool, true, false, List, [], ◌∷◌, ◌&&◌, Option, Some, None}
use Rattle.std.specs.List.{list_any}
use Rattle.mq_topic.specs.Texts.{is_name}
use Rattle.mq_acl.specs.Access.{concerns, is_user, covers}
use Rattle.mq_acl.specs.Lines as lines
use Rattle.mq_acl.specs.Rows.{Who, Everyone, AclRow}
use Rattle.mq_acl.specs.Views.{access_view, owner_view, row_view, row_views}
use Rattle.mq_acl.specs.declared.row.Row.{Row}
use Rattle.mq_rename.specs.Lists.{has_long, is_long}
use Rattle.mq_regions.specs.Carried.{IsCarried, IsCarriedIfAny}
use Rattle.mq_regions.specs.Deciding.{first_line}
use Rattle.mq_regions.specs.Limits.{has_long_row, is_long_row}
use Rattle.mq_regions.specs.Regions.{has_mark, in_kind, is_mark, kind_levels, side_name}
use Rattle.mq_regions.specs.declared.region.RegionKind.{RegionKind}
use Rattle.mq_regions.specs.declared.side.Side.{Side}

-- the row has the line and the access of another
pub record IsVersion (row made : Row) : Type 0 where
  pub line : made.line ≡ row.line
  pub access : made.access ≡ row.access

abbrev pub AreVersions : Row → List Row → Type 0
AreVersions row [] = Unit {0}
AreVersions row (made ∷ more) = IsVersion row made × AreVersions row more

-- rows of one row, some of which concerns a topic of the kind where the test passes, and none
-- another topic
pub record IsGroup (side : Side) (kind : RegionKind) (row : Row) (made : List Row)
    (test : Option (List ℕ) → List ℕ → Bool) : Type 0 where
  pub versions : AreVersions row made
  pub same : (client n m : List ℕ) (user : Option (List ℕ)) → is_name n ≡ true
      → in_kind kind n ≡ true → side_name side kind n ≡ Some m
      → list_any (concerns client user n) (row_views made) ≡ test user m
  pub outside : (client n : List ℕ) (user : Option (List ℕ)) → is_name n ≡ true
      → in_kind kind n ≡ false → list_any (concerns client user n) (row_views made) ≡ false
  pub short : is_long_row (row_view row) ≡ false → has_long_row (row_views made) ≡ false

-- a row for the same clients, with the filter carried
pub record IsCarriedRow (side : Side) (kind : RegionKind) (row : Row) (who : Who) (filter : List ℕ)
    (made : Row) : Type 0 where
  pub version : IsVersion row made
  pub owner : owner_view made.owner ≡ who
  pub carried : IsCarried side kind filter made.filter

abbrev pub IsCarriedRowIfAny : Side → RegionKind → Row → Who → List ℕ → Option Row → Type 0
IsCarriedRowIfAny side kind row who filter None = IsCarriedIfAny side kind filter None
IsCarriedRowIfAny side kind row who filter (Some made) =
    IsCarriedRow side kind row who filter made

-- the row as one for all clients, with this filter
abbrev pub everyones_row : Row → List ℕ → AclRow
everyones_row row filter =
    record { who = Everyone; access = access_view row.access; filter = filter }

-- the user name is one of the texts, and the row with this filter covers the name
abbrev pub covers_named : (client filter : List ℕ) → Row → List (List ℕ) → Option (List ℕ)
    → List ℕ → Bool
covers_named client filter row named user name =
    list_any (λ text. is_user text user) named && covers client user name (everyones_row row filter)

-- rows that decide about each topic of the kind as these do about the name that the list asks about
pub record IsMade (side : Side) (kind : RegionKind) (client : List ℕ) (rows made : List Row) :
    Type 0 where
  pub same : (x n m : List ℕ) (user : Option (List ℕ)) (p : lines.Access → Bool)
      → is_name n ≡ true → in_kind kind n ≡ true → side_name side kind n ≡ Some m
      → first_line p x user n made ≡ first_line p client user m rows
  pub outside : (x n : List ℕ) (user : Option (List ℕ)) → is_name n ≡ true
      → in_kind kind n ≡ false → list_any (concerns x user n) (row_views made) ≡ false
  pub short : has_long_row (row_views rows) ≡ false → has_long_row (row_views made) ≡ false

-- the client id is no mark, as no level of the kind's filters is, and none of them is long
pub record IsAsked (kind : RegionKind) (client : List ℕ) : Type 0 where
  pub plain_client : is_mark client ≡ false
  pub plain_kind : has_mark (kind_levels kind) ≡ false
  pub short_client : is_long client ≡ false
  pub short_kind : has_long (kind_levels kind) ≡ false

-- a row that denies all clients what the filter matches
abbrev pub denial : List ℕ → AclRow
denial filter = record { who = Everyone; access = lines.Deny; filter = filter }
