-- How many levels a client id needs to have.
use Rattle.std.specs.Prelude.{◌≡◌, ◌≤◌, ◌<◌, ◌&&◌, ℕ, Bool, true, false, List, length, ◌++◌, ◌∷◌, [], codes}
use denote.Ref.{Bor}
use Rattle.std.specs.List.{list_any}
use Rattle.std.specs.Str.{bytes_eq}
use Rattle.mq_topic.specs.Levels.{levels}
use Rattle.mq_acl.specs.Rows.{AclRow}
use Rattle.mq_acl.specs.RowsByOwner.{is_everyones}
use Rattle.mq_cover.specs.declared.start.Start.{Start}
use Rattle.mq_unify.specs.Clients.{made, made_levels}
use Rattle.mq_unify.specs.declared.shape.UserShape.{UserShape}
use Rattle.mq_unify.specs.declared.shape.UserShape.TheVariants.{Absent, Known, Levels}
use Rattle.mq_shapes.specs.Every.{has_client_mark, with_levels}
use Rattle.mq_shapes.specs.Found.{FindsNone}

-- so many levels stand in the place of this one, for user names of so many
abbrev pub LevelMakes : (pattern : Bool) → (user : ℕ) → List ℕ → ℕ → Type 0
LevelMakes pattern user level count = (client name : List ℕ) → length (levels name) ≡ user
    → length (made pattern client name level) ≡ count

-- these levels, of a `pattern` row or of another, begin with `%c`, if there are any
abbrev pub BeginsMarked : Bool → List (List ℕ) → Type 0
BeginsMarked pattern [] = Unit {0}
BeginsMarked pattern (l ∷ ls) = (pattern && bytes_eq l (codes "%c")) ≡ true

-- none of the levels before the rest is `%c`, and so many stand in their places, for user names of so many levels
pub record IsPassed (pattern : Bool) (user : ℕ) (ls : List (List ℕ)) (count : ℕ)
    (rest : List (List ℕ)) : Type 0 where
  pub before : List (List ℕ)
  pub is : ls ≡ before ++ rest
  pub none : (pattern && list_any (λ l. bytes_eq l (codes "%c")) before) ≡ false
  pub long : (client name : List ℕ) → length (levels name) ≡ user
      → length (made_levels pattern client name before) ≡ count

-- just one of these levels is `%c`, and so many stand in the places of those before it, for user names of so
-- many levels
pub record IsPlaced (user : ℕ) (ls : List (List ℕ)) (place : ℕ) : Type 0 where
  pub before : List (List ℕ)
  pub after : List (List ℕ)
  pub is : ls ≡ before ++ codes "%c" ∷ after
  pub none_before : list_any (λ l. bytes_eq l (codes "%c")) before ≡ false
  pub none_after : list_any (λ l. bytes_eq l (codes "%c")) after ≡ false
  pub long : (client name : List ℕ) → length (levels name) ≡ user
      → length (made_levels true client name before) ≡ place

-- so it is in each of the rows with `%c`
abbrev pub ArePlaced : (user place : ℕ) → List AclRow → Type 0
ArePlaced user place [] = Unit {0}
ArePlaced user place (row ∷ rows) =
    (has_client_mark row ≡ true → IsPlaced user (levels row.filter) place)
    × ArePlaced user place rows

-- with a user name of so many levels, the row has no more levels than this
abbrev pub IsWithin : (user limit : ℕ) → AclRow → Type 0
IsWithin user limit row = (client name : List ℕ) → length (levels name) ≡ user
    → length (made_levels (is_everyones row.who) client name (levels row.filter)) ≤ limit

-- so it is of each of the rows without `%c`
abbrev pub AreWithin : (user limit : ℕ) → List AclRow → Type 0
AreWithin user limit [] = Unit {0}
AreWithin user limit (row ∷ rows) =
    (has_client_mark row ≡ false → IsWithin user limit row) × AreWithin user limit rows

-- how many levels the user name of these clients has; without one the empty text stands for it
abbrev pub known_count : UserShape → ℕ
known_count Absent = 1
known_count (Known name) = length (levels name.now)
known_count (Levels count) = count

-- where no client with so many levels of its id has a topic, none with more has one
abbrev pub AreFew : UserShape → (must cover : List AclRow) → (few : ℕ) → Type 0
AreFew user must cover few = (start : Start) (users : List (Bor (List ℕ)))
    → FindsNone start (with_levels few user) users must cover → (count : ℕ) → few < count
    → FindsNone start (with_levels count user) users must cover
