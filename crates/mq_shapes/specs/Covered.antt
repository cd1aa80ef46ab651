-- Rows that cover all that another does, and rows that have no topic in common with another; the rule on `$` is
-- left out.
use Rattle.std.specs.Prelude.{◌≡◌, ℕ, Bool, true, false, List, ◌&&◌, ◌||◌, codes, Option}
use Rattle.std.specs.List.{list_all, list_any}
use Rattle.mq_topic.specs.Matching.{level_matches, levels_match_by}
use Rattle.mq_topic.specs.Texts.{is_plain}
use Rattle.mq_acl.specs.Rows.{AclRow}
use Rattle.mq_acl.specs.Words.{occurs_in}
use Rattle.mq_unify.specs.Clients.{goes_along, made, made_levels, mark_plain}
use Rattle.mq_unify.specs.Rows.{row_matches}
use Rattle.mq_shapes.specs.Found.{row_hits}

-- ---- levels of filters, of `pattern` rows or of others
-- a text of the client stands somewhere in the level
abbrev pub is_filled : (pattern : Bool) → List ℕ → Bool
is_filled pattern level =
    pattern && (occurs_in (codes "%c") level || occurs_in (codes "%u") level)

-- a name that goes along the one level and passes `behind` then goes along the other and passes `all`, where
-- whatever passes `behind` passes `all`
abbrev pub LevelCovers : (wide narrow : Bool) → (other one : List ℕ) → Type 0
LevelCovers wide narrow other one = (client user : List ℕ) (all behind : List (List ℕ) → Bool)
    → ((ls : List (List ℕ)) → behind ls ≡ true → all ls ≡ true) → (ls : List (List ℕ))
    → goes_along (made narrow client user one) behind ls ≡ true
    → goes_along (made wide client user other) all ls ≡ true

-- whatever the one filter matches the other does, for each client whose texts have no wildcards
abbrev pub LevelsCover : (wide narrow : Bool) → (other one : List (List ℕ)) → Type 0
LevelsCover wide narrow other one = (client user : List ℕ) (ls : List (List ℕ))
    → is_plain client ≡ true → is_plain user ≡ true
    → levels_match_by level_matches (made_levels narrow client user one) ls ≡ true
    → levels_match_by level_matches (made_levels wide client user other) ls ≡ true

-- nothing that the one filter matches the other does, for any client
abbrev pub LevelsApart : (this that : Bool) → (other one : List (List ℕ)) → Type 0
LevelsApart this that other one = (client user : List ℕ) (ls : List (List ℕ))
    → levels_match_by level_matches (made_levels that client user one) ls ≡ true
    → levels_match_by level_matches (made_levels this client user other) ls ≡ false

-- ---- rows
-- whatever the one row covers of a client whose texts have no wildcards the other covers
abbrev pub CoversAll : (other one : AclRow) → Type 0
CoversAll other one = (client : List ℕ) (user : Option (List ℕ)) (ls : List (List ℕ))
    → is_plain client ≡ true → mark_plain user ≡ true
    → row_matches client user ls one ≡ true → row_matches client user ls other ≡ true

-- of no client whose texts have no wildcards is there a name that each of the first rows covers and none of
-- the others
abbrev pub HitsNone : (must cover : List AclRow) → Type 0
HitsNone must cover = (client : List ℕ) (user : Option (List ℕ)) (ls : List (List ℕ))
    → is_plain client ≡ true → mark_plain user ≡ true → row_hits client user ls must cover ≡ false

-- the row covers no name that this one covers
abbrev pub IsApart : (row one : AclRow) → Type 0
IsApart row one = (client : List ℕ) (user : Option (List ℕ)) (ls : List (List ℕ))
    → row_matches client user ls one ≡ true → row_matches client user ls row ≡ false

-- nor one that all of these cover
abbrev pub IsOutside : (must : List AclRow) → AclRow → Type 0
IsOutside must row = (client : List ℕ) (user : Option (List ℕ)) (ls : List (List ℕ))
    → list_all (row_matches client user ls) must ≡ true → row_matches client user ls row ≡ false

-- no name is covered by all of these
abbrev pub CoverNone : List AclRow → Type 0
CoverNone rows = (client : List ℕ) (user : Option (List ℕ)) (ls : List (List ℕ))
    → list_all (row_matches client user ls) rows ≡ false

-- rows among these: a name that all of the first cover is covered by one of them just where it is by one
-- of these
pub record AreEnough (must cover rows : List AclRow) : Type 0 where
  pub among : (p : AclRow → Bool) → list_all p cover ≡ true → list_all p rows ≡ true
  pub same : (client : List ℕ) (user : Option (List ℕ)) (ls : List (List ℕ))
      → list_all (row_matches client user ls) must ≡ true
      → list_any (row_matches client user ls) rows ≡ list_any (row_matches client user ls) cover
