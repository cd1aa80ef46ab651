-- Topics of clients by mosquitto's rules, whatever the number of levels of their texts.
use Rattle.std.specs.Prelude.{◌≡◌, ◌≤◌, ◌++◌, ℕ, Bool, true, false, List, [], ◌&&◌, length, not, Option, Some, None}
use denote.Ref.{Bor}
use Rattle.std.specs.List.{list_all, list_any}
use Rattle.std.specs.Str.{bytes_eq}
use Rattle.mq_topic.specs.Levels.{levels}
use Rattle.mq_topic.specs.Matching.{is_wildcard, level_at, level_matches, levels_match_by}
use Rattle.mq_topic.specs.Texts.{is_plain}
use Rattle.mq_acl.specs.Access.{applies}
use Rattle.mq_acl.specs.Mosquitto.{row_covers}
use Rattle.mq_acl.specs.Rows.{Who, Anonymous, Named, Everyone, AclRow}
use Rattle.mq_acl.specs.RowsByOwner.{is_everyones}
use Rattle.mq_cover.specs.Names.{is_name_level, suits}
use Rattle.mq_cover.specs.declared.others.Others.{Others}
use Rattle.mq_cover.specs.declared.start.Start.{Start}
use Rattle.mq_cover.specs.declared.start.Start.TheVariants as starts
use Rattle.mq_shapes.specs.Every.{has_user_mark}
use Rattle.mq_shapes.specs.Found.{AreAllReady, IsUserReady, has_name, has_texts}
use Rattle.mq_shapes.specs.Found.{is_listed}
use Rattle.mq_unify.specs.Rows.{row_matches}
use Rattle.mq_unify.specs.declared.shape.UserShape.TheVariants.{Known}
use Rattle.mq_shapes.specs.declared.clients.Clients.{Clients}
use Rattle.mq_shapes.specs.declared.clients.Clients.TheVariants as clients

-- ---- the rows that can concern them
-- the row applies to these clients, and isn't passed over for them
abbrev pub is_for : Clients → AclRow → Bool
is_for clients.Anonymous row = applies None row.who && not (has_user_mark row)
is_for (clients.Named name) row = applies (Some name.now) row.who
is_for clients.Others row = is_everyones row.who

-- its filter begins with a wildcard: it covers no name that begins with `$`
abbrev pub hides : AclRow → Bool
hides row = is_wildcard (level_at (levels row.filter) 0)

-- these names begin with `$`
abbrev pub has_dollar : Start → Bool
has_dollar starts.Plain = false
has_dollar starts.Dollar = true
has_dollar starts.Readable = true
has_dollar starts.Writable = true
has_dollar starts.Slash = false
has_dollar starts.Inside = false

abbrev pub is_kept : Start → Clients → AclRow → Bool
is_kept start k row = is_for k row && not (has_dollar start && hides row)

-- ---- rows that no such names are covered by
-- the row covers no name that begins so, for any client
abbrev pub IsElsewhere : Start → AclRow → Type 0
IsElsewhere start row = (client : List ℕ) (user : Option (List ℕ)) (ls : List (List ℕ))
    → suits start ls ≡ true → row_matches client user ls row ≡ false

-- nor do all of these
abbrev pub AreElsewhere : Start → List AclRow → Type 0
AreElsewhere start rows = (client : List ℕ) (user : Option (List ℕ)) (ls : List (List ℕ))
    → suits start ls ≡ true → list_all (row_matches client user ls) rows ≡ false

-- ---- what is asked
-- the client is one of these, with a user name without wildcards if it has one
abbrev pub is_of : (users : List (Bor (List ℕ))) → Clients → Option (List ℕ) → Bool
is_of users clients.Anonymous None = true
is_of users clients.Anonymous (Some user) = false
is_of users (clients.Named name) None = false
is_of users (clients.Named name) (Some user) = bytes_eq user name.now && is_plain user
is_of users clients.Others None = false
is_of users clients.Others (Some user) = is_plain user && not (is_listed users (Some user))

abbrev pub concerns : List ℕ → Option (List ℕ) → List ℕ → AclRow → Bool
concerns client user name row = applies user row.who && row_covers client user name row

-- each of the first rows concerns what the client does with this name, and none of the others does
abbrev pub ruled_hits : List ℕ → Option (List ℕ) → List ℕ → (must cover : List AclRow) → Bool
ruled_hits client user name must cover =
    list_all (concerns client user name) must && not (list_any (concerns client user name) cover)

-- each of these filters matches the levels
abbrev pub matched_by : List AclRow → List (List ℕ) → Bool
matched_by within ls =
    list_all (λ row. levels_match_by level_matches (levels row.filter) ls) within

-- of none of these clients whose id has no wildcards is there such a name, if its texts aren't empty: it begins so, has at
-- most 200 levels, and is one that these filters match
abbrev pub RulesNone : Start → (users : List (Bor (List ℕ))) → Clients
    → (within must cover : List AclRow) → Type 0
RulesNone start users k within must cover = (client : List ℕ) (user : Option (List ℕ)) (name : List ℕ)
    → is_plain client ≡ true → is_of users k user ≡ true → has_texts client user ≡ true
    → suits start (levels name) ≡ true → length (levels name) ≤ 200
    → matched_by within (levels name) ≡ true → ruled_hits client user name must cover ≡ false

-- a user name that isn't listed has at most 200 levels
abbrev pub IsFew : Clients → Option (List ℕ) → Type 0
IsFew clients.Anonymous user = Unit {0}
IsFew (clients.Named name) user = Unit {0}
IsFew clients.Others None = Unit {0}
IsFew clients.Others (Some user) = length (levels user) ≤ 200

-- the levels of the user name that is asked about
abbrev pub known_levels : Clients → List (List ℕ)
known_levels clients.Anonymous = []
known_levels (clients.Named name) = levels name.now
known_levels clients.Others = []

-- or this is one
pub record IsRuled (start : Start) (users : List (Bor (List ℕ))) (k : Clients)
    (within must cover : List AclRow) (client : List ℕ) (user : Option (List ℕ)) (topic : List ℕ) : Type 0
  where
    pub client_plain : is_plain client ≡ true
    pub user_is : is_of users k user ≡ true
    pub texts : has_texts client user ≡ true
    pub client_few : length (levels client) ≤ 200
    pub user_few : IsFew k user
    pub suitable : suits start (levels topic) ≡ true
    pub few : length (levels topic) ≤ 200
    pub valid : list_all is_name_level (levels topic) ≡ true
    pub inside : matched_by within (levels topic) ≡ true
    pub hit : ruled_hits client user topic must cover ≡ true

-- ---- what the search stands on
-- the user name that the row is for is listed
abbrev pub names_listed : (users : List (Bor (List ℕ))) → Who → Bool
names_listed users Anonymous = true
names_listed users (Named name) = has_name users name
names_listed users Everyone = true

abbrev pub all_listed : (users : List (Bor (List ℕ))) → List AclRow → Bool
all_listed users rows = list_all (λ row. names_listed users row.who) rows

-- names are at their front
abbrev pub is_front : Start → Bool
is_front starts.Plain = true
is_front starts.Dollar = true
is_front starts.Readable = true
is_front starts.Writable = true
is_front starts.Slash = false
is_front starts.Inside = false

-- the rows are asked as they are written
abbrev pub are_literal : List AclRow → Bool
are_literal rows = list_all (λ row. not (is_everyones row.who)) rows

pub record AreRuled (others : Others) (start : Start) (users : List (Bor (List ℕ)))
    (within must cover : List AclRow) : Type 0 where
  pub ready : AreAllReady others start users (within ++ must) cover
  pub literal : are_literal within ≡ true
  pub begun : is_front start ≡ true
  pub must_listed : all_listed users must ≡ true
  pub cover_listed : all_listed users cover ≡ true

-- the user name that is asked about has no wildcards, and no level of it begins as those do that stand for others
abbrev pub AreKnown : Others → Start → Clients → Type 0
AreKnown others start clients.Anonymous = Unit {0}
AreKnown others start (clients.Named name) =
    IsUserReady others start (Known name) × (is_plain name.now ≡ true)
AreKnown others start clients.Others = Unit {0}

-- the listed user names, where these clients don't have them
abbrev pub left_out : Clients → List (Bor (List ℕ)) → List (Bor (List ℕ))
left_out clients.Anonymous users = []
left_out (clients.Named name) users = []
left_out clients.Others users = users
