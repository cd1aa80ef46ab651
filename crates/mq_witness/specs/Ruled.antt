-- What is asked of rows by the rules of their lists.
use Rattle.std.specs.Prelude.{◌≡◌, ℕ, Bool, true, false, List, ◌&&◌, ◌||◌, not, Option, string_bytes}
use Rattle.std.specs.List.{list_all, list_any}
use Rattle.mq_topic.specs.Levels.{levels}
use Rattle.mq_topic.specs.Texts.{is_name}
use Rattle.mq_acl.specs.Access.{begins_with_dollar}
use Rattle.mq_acl.specs.AccessLists.{concerns_by}
use Rattle.mq_acl.specs.Lines.{is_pattern_level}
use Rattle.mq_acl.specs.Rows.{AclRow}
use Rattle.mq_acl.specs.RowsByOwner.{is_everyones}
use Rattle.mq_acl.specs.declared.rules.Rules.{Rules}
use Rattle.mq_acl.specs.declared.rules.Rules.TheVariants.{Own, Mosquitto}
use Rattle.mq_cover.specs.Names.{can_be_level}
use Rattle.mq_cover.specs.Remainders.{mark_passes}
pub use Rattle.mq_shapes.specs.Found.{has_whole_marks}
use Rattle.mq_shapes.specs.Swaps.{swap_levels}
use Rattle.mq_shapes.specs.Swaps as leveled
use Rattle.mq_witness.specs.Leveled.{AreLevelsKnown, StandsForLevel, is_fresh, names_level}
use Rattle.mq_witness.specs.Rows.{rows_name}
use Rattle.mq_witness.specs.Asked.{AreKnown, is_placeholder}
use Rattle.mq_witness.specs.Asked.{AskedRows, StandsFor, is_client_of, user_view}
use Rattle.mq_witness.specs.Clients.{can_be_id}
use Rattle.mq_witness.specs.Names.{refused_of}
use Rattle.mq_witness.specs.Swaps.{swap, swap_name, swap_user}
use Rattle.mq_shapes.specs.declared.clients.Clients.{Clients}
use Rattle.mq_witness.specs.declared.topics.Topics.{Topics}
use Rattle.mq_witness.specs.declared.witness.Witness.{Witness}

-- each of the first rows concerns it, and none of the others does
abbrev pub decides_by : Rules → List ℕ → Option (List ℕ) → List ℕ → (must cover : List AclRow)
    → Bool
decides_by rules client user name must cover = list_all (concerns_by rules client user name) must
    && not (list_any (concerns_by rules client user name) cover)

-- ---- whom a question is about
abbrev pub has_patterns : List AclRow → Bool
has_patterns rows = list_any (λ row. is_everyones row.who) rows

-- the client is one that a broker can have, among those that are asked about
pub record IsAskedOf (asked : AskedRows) (clients : Clients) (client : List ℕ)
    (user : Option (List ℕ)) : Type 0 where
  pub client_fits : can_be_id client ≡ true
  pub user_fits : is_client_of asked clients user ≡ true

-- of no client that is asked about, each first row concerns one of these topics that begins with `$`, or doesn't, and no
-- other row does
abbrev pub FindsNoneBy : (dollar : Bool) → Topics → AskedRows → Clients
    → (must cover : List AclRow) → Type 0
FindsNoneBy dollar topics asked clients must cover = (client name : List ℕ)
    (user : Option (List ℕ)) → IsAskedOf asked clients client user → is_name name ≡ true
    → begins_with_dollar name ≡ dollar → refused_of asked.rules topics name ≡ false
    → decides_by asked.rules client user name must cover ≡ false

-- of this client each first row concerns this topic, which is one of these, and no other does
pub record IsShownBy (topics : Topics) (asked : AskedRows) (clients : Clients)
    (must cover : List AclRow) (client : List ℕ) (user : Option (List ℕ)) (name : List ℕ) : Type 0
  where
    pub is_asked : IsAskedOf asked clients client user
    pub valid : is_name name ≡ true
    pub taken : refused_of asked.rules topics name ≡ false
    pub decided : decides_by asked.rules client user name must cover ≡ true

abbrev pub ShowsBy : Topics → AskedRows → Clients → (must cover : List AclRow) → Witness → Type 0
ShowsBy topics asked clients must cover w =
    IsShownBy topics asked clients must cover (string_bytes w.client) (user_view w.user) w.name

-- ---- texts that stand for others
-- by mosquitto's rules levels do
abbrev pub is_stand_in_by : Rules → AskedRows → List ℕ → Bool
is_stand_in_by Own asked text = is_placeholder text asked
is_stand_in_by Mosquitto asked text = is_fresh asked text

abbrev pub is_stand_in : AskedRows → List ℕ → Bool
is_stand_in asked text = is_stand_in_by asked.rules asked text

-- some row names the text, or by mosquitto's rules the level
abbrev pub names_by : Rules → List ℕ → List AclRow → Bool
names_by Own text rows = rows_name text rows
names_by Mosquitto text rows = names_level text rows

-- what is shown is shown too with any text in the place of one that stands for it, where no text is too long then, and the
-- topic is one of these; by mosquitto's rules level by level
abbrev pub StandBy : Rules → Topics → AskedRows → Clients → (must cover : List AclRow) → Witness
    → Type 0
StandBy Own topics asked clients must cover w = (text other : List ℕ) → StandsFor asked text other
    → is_name (swap_name text other w.name) ≡ true
    → refused_of asked.rules topics (swap_name text other w.name) ≡ false
    → IsShownBy topics asked clients must cover (swap text other (string_bytes w.client))
    (swap_user text other (user_view w.user)) (swap_name text other w.name)
StandBy Mosquitto topics asked clients must cover w = (level other : List ℕ)
    → StandsForLevel asked level other
    → can_be_id (swap_levels level other (string_bytes w.client)) ≡ true
    → mark_passes can_be_id (leveled.swap_user level other (user_view w.user)) ≡ true
    → is_name (swap_levels level other w.name) ≡ true
    → refused_of asked.rules topics (swap_levels level other w.name) ≡ false
    → IsShownBy topics asked clients must cover (swap_levels level other (string_bytes w.client))
    (leveled.swap_user level other (user_view w.user)) (swap_levels level other w.name)

abbrev pub StandsBy : Topics → AskedRows → Clients → (must cover : List AclRow) → Witness → Type 0
StandsBy topics asked clients must cover w = StandBy asked.rules topics asked clients must cover w

-- each text of it is named by a row, or stands for others; by mosquitto's rules each level
abbrev pub AreKnownBy : Rules → AskedRows → (client : List ℕ) → Option (List ℕ)
    → (name : List ℕ) → Type 0
AreKnownBy Own asked client user name = AreKnown asked client user name
AreKnownBy Mosquitto asked client user name = AreLevelsKnown asked client user name

abbrev pub KnowsBy : AskedRows → Witness → Type 0
KnowsBy asked w = AreKnownBy asked.rules asked (string_bytes w.client) (user_view w.user) w.name

-- ---- the limit
abbrev pub are_whole : Rules → List AclRow → Bool
are_whole Own rows = true
are_whole Mosquitto rows = list_all has_whole_marks rows
