-- Topics of clients of one shape.
use Rattle.std.specs.Prelude.{◌≡◌, ◌≤◌, ◌<◌, ◌==◌, ℕ, Bool, true, false, List, length, ◌++◌, ◌&&◌, ◌||◌, not, Option, Some, None}
use Rattle.std.specs.Prelude.{map}
use Rattle.std.specs.List.{list_all, list_any}
use Rattle.std.specs.Str.{bytes_eq}
use denote.Ref.{Bor}
use Rattle.mq_topic.specs.Levels.{levels, levels_left}
use Rattle.mq_acl.specs.Lines.{is_pattern_level}
use Rattle.mq_acl.specs.Rows.{AclRow}
use Rattle.mq_acl.specs.RowsByOwner.{is_everyones}
use Rattle.mq_topic.specs.Matching.{level_matches, levels_match_by}
use Rattle.mq_cover.specs.Choices.{other_at}
use Rattle.mq_cover.specs.Remainders.{fits}
use Rattle.mq_cover.specs.Names.{are_others, can_be_level, ends, fits_start, is_choice, is_name_level, suits}
use Rattle.mq_cover.specs.declared.others.Others.{Others}
use Rattle.mq_cover.specs.declared.remainder.Remainder.{Remainder}
use Rattle.mq_cover.specs.declared.start.Start.{Start}
use Rattle.mq_unify.specs.Clients.{HasShape, user_fits}
use Rattle.mq_unify.specs.General.{is_sound}
use Rattle.mq_unify.specs.Rows.{AllMade, row_matches, rows_fit}
use Rattle.mq_unify.specs.Unlike.{FreshPass, is_unlike}
use Rattle.mq_unify.specs.declared.shape.ClientShape.{ClientShape}
use Rattle.mq_unify.specs.declared.shape.UserShape.{UserShape}
use Rattle.mq_unify.specs.declared.shape.UserShape.TheVariants.{Absent, Known, Levels}

-- each of the first filters matches these levels, and none of the others does; the rule on `$` is left out
abbrev pub filter_hits : List (List ℕ) → (must cover : List (List (List ℕ))) → Bool
filter_hits ls must cover =
    list_all (λ f. levels_match_by level_matches f ls) must
    && not (list_any (λ f. levels_match_by level_matches f ls) cover)

-- the same of rows for this client
abbrev pub row_hits : List ℕ → Option (List ℕ) → List (List ℕ) → (must cover : List AclRow) → Bool
row_hits client user ls must cover =
    list_all (row_matches client user ls) must && not (list_any (row_matches client user ls) cover)

-- there is no such name: it begins so, and has at most 200 levels
abbrev pub MatchesNone : Start → (must cover : List (List (List ℕ))) → Type 0
MatchesNone start must cover = (ls : List (List ℕ)) → suits start ls ≡ true → length ls ≤ 200
    → filter_hits ls must cover ≡ false

-- or this is one
pub record IsMatched (start : Start) (must cover : List (List (List ℕ))) (topic : List ℕ) : Type 0
  where
    pub suitable : suits start (levels topic) ≡ true
    pub few : length (levels topic) ≤ 200
    pub valid : list_all is_name_level (levels topic) ≡ true
    pub hit : filter_hits (levels topic) must cover ≡ true

-- the levels of all filters fit
abbrev pub all_fit : (List ℕ → Bool) → List (List (List ℕ)) → Bool
all_fit test filters = list_all (fits test) filters

-- the name is one of these
abbrev pub has_name : List (Bor (List ℕ)) → List ℕ → Bool
has_name names user = list_any (λ name. bytes_eq user name.now) names

-- the user name is, if there is one
abbrev pub is_listed : (users : List (Bor (List ℕ))) → Option (List ℕ) → Bool
is_listed users None = false
is_listed users (Some user) = has_name users user

abbrev pub is_empty_name : Option (List ℕ) → Bool
is_empty_name None = false
is_empty_name (Some user) = length user == 0

-- neither the client id nor the user name is empty: an empty one is none
abbrev pub has_texts : List ℕ → Option (List ℕ) → Bool
has_texts client user = not (length client == 0) && not (is_empty_name user)

-- of no client of this shape, for which the rows are asked, and whose user name isn't listed, is there such a name: it
-- begins so, and has at most 200 levels
abbrev pub FindsNone : Start → ClientShape → (users : List (Bor (List ℕ)))
    → (must cover : List AclRow) → Type 0
FindsNone start shape users must cover = (values : ℕ → List ℕ) (client : List ℕ)
    (user : Option (List ℕ)) (ls : List (List ℕ)) → HasShape shape values client user
    → AllMade shape values client user must → AllMade shape values client user cover
    → is_listed users user ≡ false → has_texts client user ≡ true
    → suits start ls ≡ true → length ls ≤ 200 → row_hits client user ls must cover ≡ false

-- of this client there is none
abbrev pub HasNone : Start → (must cover : List AclRow) → List ℕ → Option (List ℕ) → Type 0
HasNone start must cover client user = (ls : List (List ℕ)) → suits start ls ≡ true
    → length ls ≤ 200 → row_hits client user ls must cover ≡ false

-- or this is one
pub record IsTopic (start : Start) (must cover : List AclRow) (client : List ℕ)
    (user : Option (List ℕ)) (topic : List ℕ) : Type 0 where
  pub suitable : suits start (levels topic) ≡ true
  pub few : length (levels topic) ≤ 200
  pub valid : list_all is_name_level (levels topic) ≡ true
  pub hit : row_hits client user (levels topic) must cover ≡ true

-- the client is of this shape, and its user name isn't listed
pub record IsFound (start : Start) (shape : ClientShape) (users : List (Bor (List ℕ)))
    (must cover : List AclRow) (client : List ℕ) (user : Option (List ℕ)) (topic : List ℕ) : Type 0
  where
    pub values : ℕ → List ℕ
    pub fit : (i : ℕ) → can_be_level (values i) ≡ true
    pub shaped : HasShape shape values client user
    pub unlisted : is_listed users user ≡ false
    pub texts : has_texts client user ≡ true
    pub is : IsTopic start must cover client user topic

-- ---- what the search stands on
-- in a `pattern` row marks are whole levels
abbrev pub has_whole_marks : AclRow → Bool
has_whole_marks row =
    not (is_everyones row.who) || list_all is_pattern_level (levels row.filter)

-- no level of the rows begins with the text that stands for others, or is one that does; each can be a level of a name
pub record AreReady (others : Others) (start : Start) (rows : List AclRow) : Type 0 where
  pub sound : rows_fit (is_sound (other_at start others)) rows ≡ true
  pub choice : rows_fit (is_choice others) rows ≡ true
  pub whole : list_all has_whole_marks rows ≡ true

-- the user name has some level, if there is one
abbrev pub has_levels : UserShape → Bool
has_levels Absent = true
has_levels (Known name) = true
has_levels (Levels count) = not (count == 0)

-- so it is of all rows; a name may begin with the text that stands for others, whatever follows it
pub record AreAllReady (others : Others) (start : Start) (users : List (Bor (List ℕ)))
    (must cover : List AclRow) : Type 0 where
  pub others_fit : are_others others ≡ true
  pub front : ends start ≡ false
  pub begins : (rest : List ℕ) → fits_start start (other_at start others ++ rest) ≡ true
  pub fresh : FreshPass (other_at start others) (is_choice others)
  pub users_sound : list_all
      (λ name. list_all (is_unlike (other_at start others)) (levels name.now)) users ≡ true
  pub must_ready : AreReady others start must
  pub cover_ready : AreReady others start cover

-- and of the user name
pub record IsUserReady (others : Others) (start : Start) (user : UserShape) : Type 0 where
  pub some : has_levels user ≡ true
  pub sound : user_fits (is_sound (other_at start others)) user ≡ true
  pub choice : user_fits (is_choice others) user ≡ true

-- and the client id has some level
pub record IsReady (others : Others) (start : Start) (shape : ClientShape)
    (users : List (Bor (List ℕ))) (must cover : List AclRow) : Type 0 where
  pub client_some : 0 < shape.levels
  pub user : IsUserReady others start shape.user
  pub rows : AreAllReady others start users must cover

-- ---- the rows with the texts of a client
-- what is left of filters without marks, with these levels
pub record AreLeft (rs : List Remainder) (all : List (List (List ℕ))) : Type 0 where
  pub left : map (λ r. levels_left r.rest) rs ≡ all
  pub plain : list_all (λ r. not r.pattern) rs ≡ true
