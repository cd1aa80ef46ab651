-- Two levels in each other's place, wherever they stand in a text.
use Rattle.std.specs.Prelude.{◌≡◌, ◌==◌, ℕ, Bool, true, false, List, map, ◌&&◌, ◌||◌, length, not, codes}
use Rattle.std.specs.Prelude.{if◌then◌else◌, Option}
use Rattle.std.specs.List.{list_all}
use Rattle.std.specs.Option.{option_map}
use Rattle.std.specs.Str.{bytes_eq}
use Rattle.mq_topic.specs.Levels.{levels}
use Rattle.mq_acl.specs.Access.{begins_with_dollar}
use Rattle.mq_acl.specs.Rows.{Who, Anonymous, Named, Everyone, AclRow}
use Rattle.mq_acl.specs.RowsByOwner.{is_everyones}
use Rattle.mq_cover.specs.Names.{can_be_level}
use Rattle.mq_unify.specs.Joined.{join_levels}
use Rattle.mq_shapes.specs.Found.{has_whole_marks}

abbrev pub swap : List ℕ → List ℕ → List ℕ → List ℕ
swap a b level = if bytes_eq level a then b else (if bytes_eq level b then a else level)

-- level by level
abbrev pub swap_levels : List ℕ → List ℕ → List ℕ → List ℕ
swap_levels a b text = join_levels (map (swap a b) (levels text))

abbrev pub swap_user : List ℕ → List ℕ → Option (List ℕ) → Option (List ℕ)
swap_user a b user = option_map (swap_levels a b) user

-- neither of the two
abbrev pub is_apart : List ℕ → List ℕ → List ℕ → Bool
is_apart a b level = not (bytes_eq level a) && not (bytes_eq level b)

-- ---- rows that name neither
-- the text of the client takes the place of this level
abbrev pub is_mark : AclRow → List ℕ → Bool
is_mark row level =
    is_everyones row.who && (bytes_eq level (codes "%c") || bytes_eq level (codes "%u"))

abbrev pub owner_apart : List ℕ → List ℕ → Who → Bool
owner_apart a b Anonymous = true
owner_apart a b (Named name) = list_all (is_apart a b) (levels name)
owner_apart a b Everyone = true

-- no level of its filter is one of the two, nor one of the user name that it is for
abbrev pub row_apart : List ℕ → List ℕ → AclRow → Bool
row_apart a b row = list_all (λ l. is_mark row l || is_apart a b l) (levels row.filter)
    && owner_apart a b row.who

-- and its marks are whole levels
abbrev pub is_swapped : List ℕ → List ℕ → AclRow → Bool
is_swapped a b row = has_whole_marks row && row_apart a b row

-- both can be a level, aren't empty, and begin with `$` or don't
pub record AreAlike (a b : List ℕ) : Type 0 where
  pub dollar : begins_with_dollar b ≡ begins_with_dollar a
  pub level : can_be_level a ≡ true
  pub other_level : can_be_level b ≡ true
  pub some : (length a == 0) ≡ false
  pub other_some : (length b == 0) ≡ false
