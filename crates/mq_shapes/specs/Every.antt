-- Topics of clients whose texts have any number of levels.
use Rattle.std.specs.Prelude.{◌≡◌, ◌≤◌, ◌<◌, ◌&&◌, length, ℕ, Bool, true, false, List, Option, Some, None, codes}
use denote.Ref.{Bor}
use Rattle.std.specs.List.{list_any}
use Rattle.std.specs.Str.{bytes_eq}
use Rattle.mq_topic.specs.Levels.{levels}
use Rattle.mq_topic.specs.Texts.{is_plain}
use Rattle.mq_acl.specs.Rows.{AclRow}
use Rattle.mq_acl.specs.RowsByOwner.{is_everyones}
use Rattle.mq_cover.specs.declared.start.Start.{Start}
use Rattle.mq_unify.specs.declared.shape.ClientShape.{ClientShape}
use Rattle.mq_unify.specs.declared.shape.UserShape.{UserShape}
use Rattle.mq_unify.specs.declared.shape.UserShape.TheVariants.{Levels}
use Rattle.mq_shapes.specs.Found.{FindsNone, HasNone, IsFound, IsTopic, has_texts, is_listed}

-- the row is a `pattern` row, and has this mark
abbrev pub has_mark : (mark : List ℕ) → AclRow → Bool
has_mark mark row =
    is_everyones row.who && list_any (λ l. bytes_eq l mark) (levels row.filter)

abbrev pub has_client_mark : AclRow → Bool
has_client_mark row = has_mark (codes "%c") row

abbrev pub has_user_mark : AclRow → Bool
has_user_mark row = has_mark (codes "%u") row

-- clients with an id of so many levels, and with such a user name
abbrev pub with_levels : ℕ → UserShape → ClientShape
with_levels count user = record { levels = count; user = user }

-- no client with such a user name has such a topic, whatever its id
abbrev pub FindsNoneWith : Start → UserShape → (users : List (Bor (List ℕ)))
    → (must cover : List AclRow) → Type 0
FindsNoneWith start user users must cover =
    (count : ℕ) → 0 < count → FindsNone start (with_levels count user) users must cover

-- nor one with any user name that isn't listed
abbrev pub FindsNoneOfOthers : Start → (users : List (Bor (List ℕ))) → (must cover : List AclRow)
    → Type 0
FindsNoneOfOthers start users must cover =
    (most : ℕ) → 0 < most → FindsNoneWith start (Levels most) users must cover

-- ---- the same of texts: of clients whose ids and user names have no wildcards
-- of those with a user name that isn't listed
abbrev pub HasNoneOfOthers : Start → (users : List (Bor (List ℕ))) → (must cover : List AclRow)
    → Type 0
HasNoneOfOthers start users must cover = (client user : List ℕ) → is_plain client ≡ true
    → is_plain user ≡ true → is_listed users (Some user) ≡ false
    → has_texts client (Some user) ≡ true
    → HasNone start must cover client (Some user)

-- of those with this one
abbrev pub HasNoneNamed : Start → (name : List ℕ) → (must cover : List AclRow) → Type 0
HasNoneNamed start name must cover = (client : List ℕ) → is_plain client ≡ true
    → is_plain name ≡ true → has_texts client (Some name) ≡ true
    → HasNone start must cover client (Some name)

-- of those without one
abbrev pub HasNoneUnnamed : Start → (must cover : List AclRow) → Type 0
HasNoneUnnamed start must cover = (client : List ℕ) → is_plain client ≡ true
    → has_texts client None ≡ true → HasNone start must cover client None

-- ---- what is found
-- a client with such a user name has this topic
pub record IsFoundWith (start : Start) (user : UserShape) (users : List (Bor (List ℕ)))
    (must cover : List AclRow) (client : List ℕ) (name : Option (List ℕ)) (topic : List ℕ) : Type 0
  where
    pub count : ℕ
    pub few : count ≤ 200
    pub is : IsFound start (with_levels count user) users must cover client name topic

-- its id has no wildcards, nor has its user name, which isn't listed; both have at most 200 levels
pub record IsOfOthers (start : Start) (users : List (Bor (List ℕ))) (must cover : List AclRow)
    (client : List ℕ) (user : Option (List ℕ)) (topic : List ℕ) : Type 0 where
  pub name : List ℕ
  pub user_is : user ≡ Some name
  pub client_plain : is_plain client ≡ true
  pub user_plain : is_plain name ≡ true
  pub unlisted : is_listed users (Some name) ≡ false
  pub texts : has_texts client user ≡ true
  pub client_few : length (levels client) ≤ 200
  pub user_few : length (levels name) ≤ 200
  pub is : IsTopic start must cover client user topic

-- it has this user name, or none
pub record IsOfUser (start : Start) (user : Option (List ℕ)) (must cover : List AclRow)
    (client : List ℕ) (name : Option (List ℕ)) (topic : List ℕ) : Type 0 where
  pub user_is : name ≡ user
  pub client_plain : is_plain client ≡ true
  pub texts : has_texts client name ≡ true
  pub client_few : length (levels client) ≤ 200
  pub is : IsTopic start must cover client name topic
