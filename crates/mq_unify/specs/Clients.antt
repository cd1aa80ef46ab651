-- Clients by the number of levels that their texts have.
use Rattle.std.specs.Prelude.{◌≡◌, ℕ, Bool, true, false, List, [], ◌∷◌, ◌&&◌, not, codes, Option, Some, None, zero, suc}
use Rattle.std.specs.List.{flat_map, list_all}
use Rattle.std.specs.Str.{bytes_eq}
use Rattle.mq_topic.specs.Levels.{levels}
use Rattle.mq_topic.specs.Texts.{is_plain}
use Rattle.mq_topic.specs.Matching.{is_wildcard, level_matches}
use Rattle.mq_acl.specs.Filled.{filled}
use Rattle.mq_acl.specs.Lines.{is_pattern_level}
use Rattle.mq_unify.specs.declared.shape.ClientShape.{ClientShape}
use Rattle.mq_unify.specs.declared.shape.UserShape.{UserShape}
use Rattle.mq_unify.specs.declared.shape.UserShape.TheVariants.{Absent, Known, Levels}

-- the values of so many variables, from this one on
abbrev pub values_from : (ℕ → List ℕ) → ℕ → ℕ → List (List ℕ)
values_from values first zero = []
values_from values first (suc count) = values first ∷ values_from values (suc first) count

-- clients with this user name, or without one, are among these, and these are the values of its levels
abbrev pub HasUser : (ℕ → List ℕ) → ℕ → UserShape → Option (List ℕ) → Type 0
HasUser values first Absent user = user ≡ None
HasUser values first (Known name) user = user ≡ Some name.now
HasUser values first (Levels count) None = ⊥
HasUser values first (Levels count) (Some user) = levels user ≡ values_from values first count

-- this client is one of these, and these are the values of the levels that are looked for
pub record HasShape (shape : ClientShape) (values : ℕ → List ℕ) (client : List ℕ)
    (user : Option (List ℕ)) : Type 0 where
  pub client_is : levels client ≡ values_from values 0 shape.levels
  pub user_is : HasUser values shape.levels shape.user user

abbrev pub mark_plain : Option (List ℕ) → Bool
mark_plain None = true
mark_plain (Some user) = is_plain user

-- ---- the levels that stand in the places of a filter's
-- of one: in a `pattern` row with the texts of the client in the places of its marks
abbrev pub made : Bool → (client user : List ℕ) → List ℕ → List (List ℕ)
made true client user level = levels (filled client user level)
made false client user level = level ∷ []

abbrev pub made_levels : Bool → (client user : List ℕ) → List (List ℕ) → List (List ℕ)
made_levels pattern client user ls = flat_map (made pattern client user) ls

-- the levels begin with some that these match, one for one, and those behind pass the test
abbrev pub goes_along : List (List ℕ) → (List (List ℕ) → Bool) → List (List ℕ) → Bool
goes_along [] behind levels = behind levels
goes_along (w ∷ ws) behind [] = false
goes_along (w ∷ ws) behind (level ∷ levels) =
    level_matches w level && goes_along ws behind levels

-- a client of this shape, for which this level of a row is asked: in a `pattern` row its texts stand
-- in the places of marks, which are whole levels
pub record IsMadeOf (shape : ClientShape) (pattern : Bool) (values : ℕ → List ℕ)
    (client : List ℕ) (user : Option (List ℕ)) (level : List ℕ) : Type 0 where
  pub shaped : HasShape shape values client user
  pub client_plain : pattern ≡ true → is_plain client ≡ true
  pub user_plain : pattern ≡ true → mark_plain user ≡ true
  pub user_there : pattern ≡ true → user ≡ None → bytes_eq level (codes "%u") ≡ false
  pub whole : pattern ≡ true → is_pattern_level level ≡ true
  pub single : levels level ≡ level ∷ []

abbrev pub user_fits : (List ℕ → Bool) → UserShape → Bool
user_fits test (Known name) = list_all test (levels name.now)
user_fits test shape = true

-- the levels of the user name pass the test, where these are the values of those that are looked for
abbrev pub user_values_fit : (List ℕ → Bool) → UserShape → (ℕ → List ℕ) → ℕ → Bool
user_values_fit test Absent values first = true
user_values_fit test (Known name) values first = list_all test (levels name.now)
user_values_fit test (Levels count) values first = list_all test (values_from values first count)

-- the levels of the user name pass the test, if there is one
abbrev pub user_passes : (List ℕ → Bool) → Option (List ℕ) → Bool
user_passes test None = true
user_passes test (Some user) = list_all test (levels user)

-- none of them is a wildcard
abbrev pub are_plain : List (List ℕ) → Bool
are_plain ls = list_all (λ l. not (is_wildcard l)) ls

-- such a client, for which each level of a filter is so
pub record IsMade (shape : ClientShape) (pattern : Bool) (values : ℕ → List ℕ)
    (client : List ℕ) (user : Option (List ℕ)) (ls : List (List ℕ)) : Type 0 where
  pub shaped : HasShape shape values client user
  pub client_plain : pattern ≡ true → is_plain client ≡ true
  pub user_plain : pattern ≡ true → mark_plain user ≡ true
  pub user_there : pattern ≡ true → user ≡ None
      → list_all (λ l. not (bytes_eq l (codes "%u"))) ls ≡ true
  pub whole : pattern ≡ true → list_all is_pattern_level ls ≡ true
