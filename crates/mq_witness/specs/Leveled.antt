-- What is answered by mosquitto's rules: client ids and user names have levels, and a level stands for others wherever it is.
use Rattle.std.specs.Prelude.{◌≡◌, ◌⊎◌, ◌||◌, ◌==◌, ℕ, Bool, true, false, List, Option, codes, length, nat_eq}
use Rattle.std.specs.Prelude.{string_bytes}
use Rattle.std.specs.List.{list_all, list_any, starts_with}
use Rattle.std.specs.Str.{bytes_eq}
use Rattle.mq_topic.specs.Levels.{levels}
use Rattle.mq_topic.specs.Texts.{is_name}
use Rattle.mq_acl.specs.Access.{begins_with_dollar}
use Rattle.mq_acl.specs.Rows.{Who, Anonymous, Named, Everyone, AclRow}
use Rattle.mq_cover.specs.Names.{can_be_level}
use Rattle.mq_cover.specs.Remainders.{mark_passes}
use Rattle.mq_unify.specs.Clients.{user_passes}
use Rattle.mq_shapes.specs.Ruled.{ruled_hits}
use Rattle.mq_shapes.specs.Swaps.{swap_levels, swap_user}
use Rattle.mq_shapes.specs.declared.clients.Clients.{Clients}
use Rattle.mq_witness.specs.Asked.{AskedRows, is_client_of, is_state_level, user_view}
use Rattle.mq_witness.specs.Clients.{can_be_id}
use Rattle.mq_witness.specs.Literals.{is_literal_in}
use Rattle.mq_witness.specs.Names.{is_one_of}
use Rattle.mq_witness.specs.declared.names.Names.{Names}
use Rattle.mq_witness.specs.declared.witness.Witness.{Witness}

-- ---- levels
-- it begins as those do that stand for others
abbrev pub is_fresh : AskedRows → List ℕ → Bool
is_fresh asked level =
    starts_with nat_eq level asked.plain || starts_with nat_eq level asked.dollar

abbrev pub owner_names : List ℕ → Who → Bool
owner_names level Anonymous = false
owner_names level (Named name) = list_any (bytes_eq level) (levels name)
owner_names level Everyone = false

-- some row names the level: in its filter, where it is no wildcard, or in the user name that it is for
abbrev pub row_names_level : List ℕ → AclRow → Bool
row_names_level level row =
    is_literal_in level (levels row.filter) || owner_names level row.who

abbrev pub names_level : List ℕ → List AclRow → Bool
names_level level rows = list_any (row_names_level level) rows

-- some row does, it stands for others, or it is a level of the states of bridges
abbrev pub is_known_level : AskedRows → List ℕ → Bool
is_known_level asked level =
    names_level level asked.rows || is_fresh asked level || is_state_level level

-- so it is of each level; a client id with wildcards is `+`
pub record AreLevelsKnown (asked : AskedRows) (client : List ℕ) (user : Option (List ℕ))
    (name : List ℕ) : Type 0 where
  pub client_known : (client ≡ codes "+")
      ⊎ (list_all (is_known_level asked) (levels client) ≡ true)
  pub user_known : user_passes (is_known_level asked) user ≡ true
  pub levels_known : list_all (is_known_level asked) (levels name) ≡ true

abbrev pub LevelsKnown : AskedRows → Witness → Type 0
LevelsKnown asked w = AreLevelsKnown asked (string_bytes w.client) (user_view w.user) w.name

-- a level stands for this other one: no row names that, both can be a level, and begin with `$` or don't
pub record StandsForLevel (asked : AskedRows) (level other : List ℕ) : Type 0 where
  pub fresh : is_fresh asked level ≡ true
  pub level_can : can_be_level level ≡ true
  pub other_can : can_be_level other ≡ true
  pub some : (length other == 0) ≡ false
  pub unnamed : names_level other asked.rows ≡ false
  pub dollar : begins_with_dollar other ≡ begins_with_dollar level

-- ---- of names of one kind
-- of no client that is asked about does each first row concern one of the names, and no other row
abbrev pub NamesFindNone : Names → AskedRows → Clients → (must cover : List AclRow) → Type 0
NamesFindNone names asked clients must cover = (client name : List ℕ) (user : Option (List ℕ))
    → can_be_id client ≡ true → is_client_of asked clients user ≡ true → is_name name ≡ true
    → is_one_of names name ≡ true → ruled_hits client user name must cover ≡ false

-- of this client they do this name
pub record IsHitBy (asked : AskedRows) (clients : Clients) (must cover : List AclRow)
    (client : List ℕ) (user : Option (List ℕ)) (name : List ℕ) : Type 0 where
  pub client_fits : can_be_id client ≡ true
  pub user_fits : is_client_of asked clients user ≡ true
  pub valid : is_name name ≡ true
  pub hit : ruled_hits client user name must cover ≡ true

abbrev pub IsHit : AskedRows → Clients → (must cover : List AclRow) → Witness → Type 0
IsHit asked clients must cover w =
    IsHitBy asked clients must cover (string_bytes w.client) (user_view w.user) w.name

-- and so they do with any level in the place of one that stands for it, where no text is too long then
abbrev pub LevelsStand : AskedRows → Clients → (must cover : List AclRow) → Witness → Type 0
LevelsStand asked clients must cover w = (level other : List ℕ) → StandsForLevel asked level other
    → can_be_id (swap_levels level other (string_bytes w.client)) ≡ true
    → mark_passes can_be_id (swap_user level other (user_view w.user)) ≡ true
    → is_name (swap_levels level other w.name) ≡ true
    → IsHitBy asked clients must cover (swap_levels level other (string_bytes w.client))
    (swap_user level other (user_view w.user)) (swap_levels level other w.name)
