-- Topics of clients whose id or user name has a wildcard: by mosquitto's rules no `pattern` row is asked for them.
use Rattle.std.specs.Prelude.{◌≡◌, ◌≤◌, ℕ, Bool, true, false, List, ◌&&◌, codes, length, not, Option, Some, None}
use denote.Ref.{Bor}
use Rattle.std.specs.List.{list_all}
use Rattle.std.specs.Str.{bytes_eq}
use Rattle.mq_topic.specs.Levels.{levels}
use Rattle.mq_topic.specs.Texts.{is_plain}
use Rattle.mq_acl.specs.Access.{applies}
use Rattle.mq_acl.specs.Rows.{AclRow}
use Rattle.mq_acl.specs.RowsByOwner.{is_everyones}
use Rattle.mq_cover.specs.Names.{is_name_level, suits}
use Rattle.mq_cover.specs.Choices.{other_at}
use Rattle.mq_cover.specs.declared.others.Others.{Others}
use Rattle.mq_cover.specs.declared.start.Start.{Start}
use Rattle.mq_unify.specs.Clients.{mark_plain}
use Rattle.mq_shapes.specs.Found.{is_listed}
use Rattle.mq_shapes.specs.Ruled.{has_dollar, hides, matched_by, ruled_hits}
use Rattle.mq_shapes.specs.declared.clients.Clients.{Clients}
use Rattle.mq_shapes.specs.declared.clients.Clients.TheVariants as clients

-- the id has a wildcard, or the user name, if there is one
abbrev pub is_odd : List ℕ → Option (List ℕ) → Bool
is_odd client user = not (is_plain client && mark_plain user)

-- the client is one of these
abbrev pub is_among : (users : List (Bor (List ℕ))) → Clients → Option (List ℕ) → Bool
is_among users clients.Anonymous None = true
is_among users clients.Anonymous (Some user) = false
is_among users (clients.Named name) None = false
is_among users (clients.Named name) (Some user) = bytes_eq user name.now
is_among users clients.Others None = false
is_among users clients.Others (Some user) = not (is_listed users (Some user))

-- the row is of these clients alone
abbrev pub is_own_of : Clients → AclRow → Bool
is_own_of clients.Anonymous row = applies None row.who && not (is_everyones row.who)
is_own_of (clients.Named name) row = applies (Some name.now) row.who && not (is_everyones row.who)
is_own_of clients.Others row = false

-- and can cover such a name
abbrev pub is_own_kept : Start → Clients → AclRow → Bool
is_own_kept start k row = is_own_of k row && not (has_dollar start && hides row)

-- of none of them is there such a name: it begins so, has at most 200 levels, and is one that these filters match
abbrev pub OddNone : Start → (users : List (Bor (List ℕ))) → Clients
    → (within must cover : List AclRow) → Type 0
OddNone start users k within must cover = (client : List ℕ) (user : Option (List ℕ)) (name : List ℕ)
    → is_odd client user ≡ true → is_among users k user ≡ true
    → suits start (levels name) ≡ true → length (levels name) ≤ 200
    → matched_by within (levels name) ≡ true → ruled_hits client user name must cover ≡ false

-- the user name that is shown: this one, or one that no row names
abbrev pub IsOddUser : Clients → (other : List ℕ) → Option (List ℕ) → Type 0
IsOddUser clients.Anonymous other user = user ≡ None
IsOddUser (clients.Named name) other user = user ≡ Some name.now
IsOddUser clients.Others other user = user ≡ Some other

-- or this is one
pub record IsOdd (others : Others) (start : Start) (users : List (Bor (List ℕ))) (k : Clients)
    (within must cover : List AclRow) (client : List ℕ) (user : Option (List ℕ)) (topic : List ℕ) :
    Type 0
  where
    pub client_is : client ≡ codes "+"
    pub user_is : IsOddUser k (other_at start others) user
    pub odd : is_odd client user ≡ true
    pub among : is_among users k user ≡ true
    pub suitable : suits start (levels topic) ≡ true
    pub few : length (levels topic) ≤ 200
    pub valid : list_all is_name_level (levels topic) ≡ true
    pub inside : matched_by within (levels topic) ≡ true
    pub hit : ruled_hits client user topic must cover ≡ true
