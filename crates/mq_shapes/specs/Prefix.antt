-- Texts that no row names: none of its levels begins with them.
use Rattle.std.specs.Prelude.{◌≡◌, ◌≤◌, ◌<◌, ℕ, Bool, true, false, List, ◌++◌, ◌||◌, codes, length}
use Rattle.std.specs.Prelude.{◌&&◌, nat_eq, nat_le, replicate}
use denote.Ref.{Bor}
use Rattle.std.specs.List.{flat_map, list_all, list_any, starts_with}
use Rattle.std.specs.Str.{bytes_eq}
use Rattle.mq_topic.specs.Levels.{levels}
use Rattle.mq_acl.specs.Rows.{Who, Anonymous, Named, Everyone, AclRow}
use Rattle.mq_acl.specs.Views.{row_view, row_views}
use Rattle.mq_acl.specs.declared.row.Row.{Row}
use Rattle.mq_cover.specs.Names.{can_be_level}
use Rattle.mq_cover.specs.Remainders.{fits}
use Rattle.mq_shapes.specs.Found.{has_whole_marks}

-- the rows of several lists
abbrev pub all_rows : List (Bor (List Row)) → List AclRow
all_rows lists = flat_map (λ list. row_views list.now) lists

-- some level of the text begins with the prefix
abbrev pub begins : (prefix text : List ℕ) → Bool
begins prefix text = list_any (λ l. starts_with nat_eq l prefix) (levels text)

abbrev pub owner_begins : List ℕ → Who → Bool
owner_begins prefix Anonymous = false
owner_begins prefix (Named name) = begins prefix name
owner_begins prefix Everyone = false

-- some level of the filter does, or of the user name
abbrev pub row_begins : List ℕ → AclRow → Bool
row_begins prefix row = begins prefix row.filter || owner_begins prefix row.who

abbrev pub some_begins : List ℕ → List AclRow → Bool
some_begins prefix rows = list_any (row_begins prefix) rows

abbrev pub list_begins : List ℕ → List Row → Bool
list_begins prefix rows = list_any (λ row. row_begins prefix (row_view row)) rows

-- none of these levels is longer than 300 bytes: no longer text begins one
abbrev pub AreShort : List AclRow → Type 0
AreShort rows = (prefix : List ℕ) → 300 < length prefix → some_begins prefix rows ≡ false

-- a base, and as many `x` behind it
pub record IsPadded (base text : List ℕ) : Type 0 where
  pub count : ℕ
  pub few : count ≤ 301
  pub is : text ≡ base ++ replicate count 120

-- such a text, which begins no level of the rows, unless these are longer
pub record IsPrefix (base : List ℕ) (rows : List AclRow) (text : List ℕ) : Type 0 where
  pub made : IsPadded base text
  pub unlike : AreShort rows → some_begins text rows ≡ false

-- what the levels begin with that stand for others, in names that begin with `$` and in those that don't
pub record ArePrefixes (rows : List AclRow) (plain dollar : List ℕ) : Type 0 where
  pub is_plain : IsPrefix (codes "x") rows plain
  pub is_dollar : IsPrefix (codes "$x") rows dollar

-- ---- the limit of the rows
-- no longer than 300 bytes
abbrev pub is_short : List ℕ → Bool
is_short text = nat_le (length text) 300

abbrev pub short_owner : Who → Bool
short_owner Anonymous = true
short_owner (Named name) = is_short name
short_owner Everyone = true

-- but for wildcards each level can be one of a name, and is short, and so is the user name
abbrev pub is_usable : AclRow → Bool
is_usable row = fits (λ l. can_be_level l && is_short l) (levels row.filter) && short_owner row.who

-- some row is for the clients of this user name alone
abbrev pub is_name_of : List ℕ → Who → Bool
is_name_of user Anonymous = false
is_name_of user (Named name) = bytes_eq user name
is_name_of user Everyone = false

abbrev pub is_user_of : List ℕ → List AclRow → Bool
is_user_of user rows = list_any (λ row. is_name_of user row.who) rows

-- ---- the rows can be asked
-- they keep to the limit, and their marks are whole levels
pub record CanBeAsked (rows : List AclRow) : Type 0 where
  pub usable : list_all is_usable rows ≡ true
  pub whole : list_all has_whole_marks rows ≡ true
