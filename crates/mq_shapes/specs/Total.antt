-- How many levels the topics have that all of some rows cover.
use Rattle.std.specs.Prelude.{◌≡◌, ◌≤◌, ◌<◌, ℕ, Bool, true, false, List, length, Option}
use Rattle.std.specs.List.{list_all, list_any}
use Rattle.mq_topic.specs.Matching.{level_matches, levels_match_by}
use Rattle.mq_acl.specs.Rows.{AclRow}
use Rattle.mq_unify.specs.Clients.{made_levels}
use Rattle.mq_unify.specs.Rows.{row_matches}
use Rattle.mq_shapes.specs.Every.{has_mark}

-- whatever these levels match has so many, for any client
abbrev pub IsTotal : (pattern : Bool) → List (List ℕ) → (total : ℕ) → Type 0
IsTotal pattern filter total = (client user : List ℕ) (ls : List (List ℕ))
    → levels_match_by level_matches (made_levels pattern client user filter) ls ≡ true
    → length ls ≡ total

-- whatever the row covers has
abbrev pub HasTotal : AclRow → (total : ℕ) → Type 0
HasTotal row total = (client : List ℕ) (user : Option (List ℕ)) (ls : List (List ℕ))
    → row_matches client user ls row ≡ true → length ls ≡ total

-- a name that the row covers, and that has at most `most` levels, has at most `least`
abbrev pub IsLess : AclRow → (most least : ℕ) → Type 0
IsLess row most least = (client : List ℕ) (user : Option (List ℕ)) (ls : List (List ℕ))
    → row_matches client user ls row ≡ true → length ls ≤ most → length ls ≤ least

-- a name of at most 200 levels that all of these cover has at most so many
abbrev pub HaveAtMost : List AclRow → (most : ℕ) → Type 0
HaveAtMost rows most = (client : List ℕ) (user : Option (List ℕ)) (ls : List (List ℕ))
    → length ls ≤ 200 → list_all (row_matches client user ls) rows ≡ true → length ls ≤ most

-- so many levels of the texts that stand for this mark are enough to try: no more are in a name that all rows
-- cover, and where none of them has the mark, one is as good as more
pub record AreTried (mark : List ℕ) (rows : List AclRow) (most : ℕ) : Type 0 where
  pub marked : list_any (has_mark mark) rows ≡ true → HaveAtMost rows most
  pub unmarked : list_any (has_mark mark) rows ≡ false → 0 < most
