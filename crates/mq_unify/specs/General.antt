-- The most general client: what covers its topics covers those of each client with as many levels.
use Rattle.std.specs.Prelude.{◌≡◌, ◌<◌, ℕ, Bool, true, List, [], ◌∷◌, ◌&&◌}
use Rattle.std.specs.Prelude.{Option}
use Rattle.std.specs.List.{list_all}
use Rattle.mq_topic.specs.Levels.{levels}
use Rattle.mq_acl.specs.Rows.{AclRow}
use Rattle.mq_acl.specs.RowsByOwner.{is_everyones}
use Rattle.mq_cover.specs.Names.{can_be_level}
use Rattle.mq_cover.specs.Remainders.{fits}
use Rattle.mq_unify.specs.Clients.{HasShape, IsMade, user_fits, user_passes}
use Rattle.mq_unify.specs.Joined.{HasLevels}
use Rattle.mq_unify.specs.Rows.{AllMade, row_matches, rows_fit}
use Rattle.mq_unify.specs.Unlike.{FreshPass, is_unlike}
use Rattle.mq_unify.specs.declared.shape.ClientShape.{ClientShape}

-- a level that is named by a row: it can be one of a name, and doesn't begin with the prefix
abbrev pub is_sound : List ℕ → List ℕ → Bool
is_sound prefix level = is_unlike prefix level && can_be_level level

-- the prefix can be a level, there are levels to be looked for, and no row names one that begins with the prefix
pub record IsSound (prefix : List ℕ) (shape : ClientShape) (rows : List AclRow) : Type 0 where
  pub prefix_is : can_be_level prefix ≡ true
  pub client_some : 0 < shape.levels
  pub user_some : HasLevels shape.user
  pub rows_sound : rows_fit (is_sound prefix) rows ≡ true
  pub user_sound : user_fits (is_sound prefix) shape.user ≡ true

-- each level begins with the prefix, or is the one at its place
abbrev pub AreAlike : List ℕ → (topic ls : List (List ℕ)) → Type 0
AreAlike prefix [] [] = Unit {0}
AreAlike prefix [] (l ∷ ls) = ⊥
AreAlike prefix (t ∷ ts) [] = ⊥
AreAlike prefix (t ∷ ts) (l ∷ ls) =
    (is_unlike prefix t ≡ true → l ≡ t) × AreAlike prefix ts ls

-- a topic of the general client for one of another client
pub record StandsFor (prefix : List ℕ) (shape : ClientShape) (must : List AclRow)
    (values : ℕ → List ℕ) (client : List ℕ) (user : Option (List ℕ))
    (others : ℕ → List ℕ) (other : List ℕ) (other_user : Option (List ℕ)) (ls : List (List ℕ)) :
    Type 0 where
  pub topic : List (List ℕ)
  -- all of the first rows match it
  pub matched : list_all (row_matches client user topic) must ≡ true
  -- and a row that matches it matches that of the other client
  pub follows : (row : AclRow)
      → IsMade shape (is_everyones row.who) values client user (levels row.filter)
      → IsMade shape (is_everyones row.who) others other other_user (levels row.filter)
      → fits (is_unlike prefix) (levels row.filter) ≡ true
      → row_matches client user topic row ≡ true → row_matches other other_user ls row ≡ true
  -- it has as many levels, and begins as that does
  pub alike : AreAlike prefix topic ls
  -- each level of the client that doesn't begin with the prefix is that of the other
  pub known : (i : ℕ) → is_unlike prefix (values i) ≡ true → others i ≡ values i
  -- a test that the levels of the client, those of the rows and the prefix pass is passed by its levels
  pub pass : (test : List ℕ → Bool) → test prefix ≡ true → ((i : ℕ) → test (values i) ≡ true)
      → rows_fit test must ≡ true → user_fits test shape.user ≡ true → list_all test topic ≡ true

-- this client is one of these, and has for each topic of another that all of the first rows match one that stands for it
pub record IsMostGeneral (prefix : List ℕ) (shape : ClientShape) (must : List AclRow)
    (client : List ℕ) (user : Option (List ℕ)) : Type 0 where
  pub values : ℕ → List ℕ
  pub shaped : HasShape shape values client user
  pub are_levels : (i : ℕ) → can_be_level (values i) ≡ true
  -- a test that the levels of the rows pass, and those that no row names, is passed by its levels
  pub pass : (test : List ℕ → Bool) → FreshPass prefix test → rows_fit test must ≡ true
      → user_fits test shape.user ≡ true
      → (list_all test (levels client) ≡ true) × (user_passes test user ≡ true)
  pub stands : (others : ℕ → List ℕ) (other : List ℕ) (other_user : Option (List ℕ))
      (ls : List (List ℕ)) → AllMade shape others other other_user must
      → AllMade shape values client user must
      → list_all (row_matches other other_user ls) must ≡ true
      → StandsFor prefix shape must values client user others other other_user ls
