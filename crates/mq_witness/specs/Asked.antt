-- What is asked of the rows of lists, and what is answered.
use Rattle.std.specs.Prelude.{◌≡◌, ◌||◌, ℕ, Bool, true, false, List, Option, String}
use Rattle.std.specs.Prelude.{string_bytes}
use Rattle.std.specs.List.{list_any, list_all}
use Rattle.std.specs.Option.{option_map}
use Rattle.std.specs.Str.{bytes_eq}
use Rattle.std.specs.declared.alloc.Global.{Global}
use Rattle.mq_topic.specs.Levels.{levels}
use Rattle.mq_topic.specs.Texts.{is_name}
use Rattle.mq_acl.specs.Access.{begins_with_dollar}
use Rattle.mq_acl.specs.Refused.{state_filter}
use Rattle.mq_acl.specs.Rows.{AclRow}
use Rattle.mq_acl.specs.declared.rules.Rules.{Rules}
use Rattle.mq_cover.specs.Names.{can_be_level}
use Rattle.mq_cover.specs.Remainders.{mark_passes}
use Rattle.mq_witness.specs.Clients.{can_be_id, is_of, name_passes}
use Rattle.mq_witness.specs.Decided.{decides, decides_in}
use Rattle.mq_witness.specs.Names.{is_one_of}
use Rattle.mq_witness.specs.Literals.{is_literal_in}
use Rattle.mq_witness.specs.Rows.{is_user_of, rows_name}
use Rattle.mq_witness.specs.Swaps.{swap, swap_user, swap_name}
use Rattle.mq_shapes.specs.declared.clients.Clients.{Clients}
use Rattle.mq_shapes.specs.declared.clients.Clients.TheVariants.{Anonymous, Named, Others}
use Rattle.mq_witness.specs.declared.names.Names.{Names}
use Rattle.mq_witness.specs.declared.witness.Witness.{Witness}

-- the rows of all lists, their rules, and the texts that stand for those that no row names; by mosquitto's rules these are
-- the levels that begin with one of two texts
pub record AskedRows : Type 0 where
  pub rules : Rules
  pub rows : List AclRow
  pub placeholders : List (List ℕ)
  pub plain : List ℕ
  pub dollar : List ℕ

abbrev pub is_placeholder : List ℕ → AskedRows → Bool
is_placeholder text asked = list_any (bytes_eq text) asked.placeholders

-- whether the clients of this user name, or without one, are among those that are asked about
abbrev pub is_client_of : AskedRows → Clients → Option (List ℕ) → Bool
is_client_of asked clients user = is_of (λ u. is_user_of u asked.rows) clients user

-- a row names the user name, if there is one
abbrev pub IsListed : AskedRows → Clients → Type 0
IsListed asked Anonymous = Unit {0}
IsListed asked (Named name) = is_user_of name.now asked.rows ≡ true
IsListed asked Others = Unit {0}

-- of no client that is asked about, each first row concerns a topic and no other does
abbrev pub FindsNone : AskedRows → Clients → (must cover : List AclRow) → Type 0
FindsNone asked clients must cover = (client name : List ℕ) (user : Option (List ℕ))
    → can_be_id client ≡ true → is_client_of asked clients user ≡ true → is_name name ≡ true
    → decides client user name must cover ≡ false

-- the same of these topics, where a text in the place of a mark counts for the rule on `$`, or doesn't
abbrev pub FindsNoneIn : Bool → Names → AskedRows → Clients → (must cover : List AclRow) → Type 0
FindsNoneIn front names asked clients must cover = (client name : List ℕ)
    (user : Option (List ℕ)) → can_be_id client ≡ true → is_client_of asked clients user ≡ true
    → is_name name ≡ true → is_one_of names name ≡ true
    → decides_in front client user name must cover ≡ false

-- of this client each first row concerns this topic and no other does
pub record IsShownIn (front : Bool) (asked : AskedRows) (clients : Clients)
    (must cover : List AclRow) (client : List ℕ) (user : Option (List ℕ)) (name : List ℕ) :
    Type 0 where
  pub client_fits : can_be_id client ≡ true
  pub user_fits : is_client_of asked clients user ≡ true
  pub valid : is_name name ≡ true
  pub decided : decides_in front client user name must cover ≡ true

abbrev pub IsShown : AskedRows → Clients → (must cover : List AclRow) → List ℕ
    → Option (List ℕ) → List ℕ → Type 0
IsShown asked clients must cover client user name =
    IsShownIn false asked clients must cover client user name

-- a placeholder stands for this other one: no row names that, and where the one can be an
-- id or a level, so can the other
pub record StandsFor (asked : AskedRows) (text other : List ℕ) : Type 0 where
  pub placeholder : is_placeholder text asked ≡ true
  pub unnamed : rows_name other asked.rows ≡ false
  pub apart : is_placeholder other asked ≡ false
  pub id : can_be_id other ≡ true
  pub level : can_be_level other ≡ true
  pub dollar : begins_with_dollar other ≡ begins_with_dollar text

-- what is shown is shown too with any text in the place of one that stands for it, where the topic
-- isn't too long then
abbrev pub ShowsOthersIn : Bool → AskedRows → Clients → (must cover : List AclRow) → List ℕ
    → Option (List ℕ) → List ℕ → Type 0
ShowsOthersIn front asked clients must cover client user name = (text other : List ℕ)
    → StandsFor asked text other → is_name (swap_name text other name) ≡ true
    → IsShownIn front asked clients must cover (swap text other client)
    (swap_user text other user) (swap_name text other name)

abbrev pub ShowsOthers : AskedRows → Clients → (must cover : List AclRow) → List ℕ
    → Option (List ℕ) → List ℕ → Type 0
ShowsOthers asked clients must cover client user name =
    ShowsOthersIn false asked clients must cover client user name

-- it is a level of the states of bridges, which clients may write by mosquitto's rules
abbrev pub is_state_level : List ℕ → Bool
is_state_level text = is_literal_in text (levels state_filter)

-- a row names the text, or it is a placeholder, or a level of those states
abbrev pub is_known : AskedRows → List ℕ → Bool
is_known asked text =
    rows_name text asked.rows || is_placeholder text asked || is_state_level text

-- so it is of the client id, the user name and each level of the topic
pub record AreKnown (asked : AskedRows) (client : List ℕ) (user : Option (List ℕ))
    (name : List ℕ) : Type 0 where
  pub client_known : is_known asked client ≡ true
  pub user_known : mark_passes (is_known asked) user ≡ true
  pub levels_known : list_all (is_known asked) (levels name) ≡ true

abbrev pub user_view : Option (String Global) → Option (List ℕ)
user_view user = option_map string_bytes user

-- the same of a witness
abbrev pub ShowsIn : Bool → AskedRows → Clients → (must cover : List AclRow) → Witness → Type 0
ShowsIn front asked clients must cover w =
    IsShownIn front asked clients must cover (string_bytes w.client) (user_view w.user) w.name

abbrev pub Shows : AskedRows → Clients → (must cover : List AclRow) → Witness → Type 0
Shows asked clients must cover w = ShowsIn false asked clients must cover w

abbrev pub Knows : AskedRows → Witness → Type 0
Knows asked w = AreKnown asked (string_bytes w.client) (user_view w.user) w.name

abbrev pub StandsIn : Bool → AskedRows → Clients → (must cover : List AclRow) → Witness → Type 0
StandsIn front asked clients must cover w =
    ShowsOthersIn front asked clients must cover (string_bytes w.client) (user_view w.user) w.name

abbrev pub Stands : AskedRows → Clients → (must cover : List AclRow) → Witness → Type 0
Stands asked clients must cover w = StandsIn false asked clients must cover w

-- its client id and its user name can be levels, where the user name that is asked about can
abbrev pub AreLevels : Clients → Witness → Type 0
AreLevels clients w = name_passes can_be_level clients ≡ true
    → (can_be_level (string_bytes w.client) ≡ true)
    × (mark_passes can_be_level (user_view w.user) ≡ true)
