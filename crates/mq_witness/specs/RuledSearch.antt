-- The search by mosquitto's rules, over every client id and user name.
use Rattle.std.specs.Prelude.{◌≡◌, ◌⊎◌, ◌&&◌, ◌++◌, ◌∷◌, ℕ, Bool, true, false, List, [], All, Contains}
use Rattle.std.specs.Prelude.{Option, codes, not, if◌then◌else◌}
use denote.Ref.{Bor}
use Rattle.std.specs.List.{list_all}
use Rattle.mq_topic.specs.Levels.{levels}
use Rattle.mq_topic.specs.Texts.{is_name, is_plain}
use Rattle.mq_acl.specs.Refused.{is_state, state_filter}
use Rattle.mq_acl.specs.Lines.{Read}
use Rattle.mq_acl.specs.Rows.{AclRow, Anonymous}
use Rattle.mq_cover.specs.declared.others.Others.{Others}
use Rattle.mq_unify.specs.Clients.{user_passes}
use Rattle.mq_unify.specs.Rows.{rows_fit}
use Rattle.mq_unify.specs.Unlike.{FreshPass}
use Rattle.mq_shapes.specs.Found.{IsUserReady, has_name}
use Rattle.mq_shapes.specs.Ruled.{AreRuled, known_levels, matched_by, ruled_hits}
use Rattle.mq_shapes.specs.declared.clients.Clients.{Clients}
use Rattle.mq_shapes.specs.declared.clients.Clients.TheVariants as clients
use Rattle.mq_witness.specs.Clients.{can_be_id, is_of, name_passes}
use Rattle.mq_witness.specs.Names.{are_states, is_one_of, names_fit, start_at}
use Rattle.mq_cover.specs.Remainders.{fits}
use Rattle.mq_unify.specs.declared.shape.UserShape.TheVariants.{Known}
use Rattle.mq_witness.specs.declared.names.Names.{Names}

-- ---- what it stands on
-- a row that is asked as it is written, with the filter of the states of bridges
abbrev pub state_row : AclRow
state_row = record { who = Anonymous; access = Read; filter = state_filter }

-- the rows whose filters all of these names match
abbrev pub within : Names → (states : List AclRow) → List AclRow
within names states = if are_states names then states else []

-- of each kind of names the rows can be asked, and about each of these user names that can be filled in
pub record CanBeRuled (others : Others) (users : List (Bor (List ℕ)))
    (states must cover : List AclRow) : Type 0 where
  pub ready : (names : Names)
      → AreRuled others (start_at names) users (within names states) must cover
  pub known : (names : Names) (name : Bor (List ℕ)) → has_name users name.now ≡ true
      → can_be_id name.now ≡ true → is_plain name.now ≡ true
      → IsUserReady others (start_at names) (Known name)
  -- the rows of the states of bridges match these alone
  pub match : (name : List ℕ) → matched_by states (levels name) ≡ is_state name
  pub fit : (test : List ℕ → Bool) → rows_fit test states ≡ fits test (levels state_filter)

-- the user name that is asked about, if there is one, has no wildcards
abbrev pub has_plain_name : Clients → Bool
has_plain_name clients = name_passes is_plain clients

-- it is one of these
abbrev pub IsAmong : (users : List (Bor (List ℕ))) → Clients → Type 0
IsAmong users clients.Anonymous = Unit {0}
IsAmong users (clients.Named name) = has_name users name.now ≡ true
IsAmong users clients.Others = Unit {0}

-- ---- what is answered
-- of no client whose user name is among these does each first row concern one of the names, and no other row
abbrev pub RuledFindsNone : Names → (users : List (Bor (List ℕ))) → Clients
    → (must cover : List AclRow) → Type 0
RuledFindsNone names users k must cover = (client name : List ℕ) (user : Option (List ℕ))
    → can_be_id client ≡ true → is_of (has_name users) k user ≡ true → is_name name ≡ true
    → is_one_of names name ≡ true → ruled_hits client user name must cover ≡ false

-- of this client they do this one
pub record IsRuledAnswer (names : Names) (users : List (Bor (List ℕ))) (k : Clients)
    (must cover : List AclRow) (client : List ℕ) (user : Option (List ℕ)) (name : List ℕ) : Type 0
  where
    pub client_fits : can_be_id client ≡ true
    pub user_fits : is_of (has_name users) k user ≡ true
    pub valid : is_name name ≡ true
    pub kind : is_one_of names name ≡ true
    pub hit : ruled_hits client user name must cover ≡ true

-- the client id has a wildcard, or its levels pass the test, and so do those of the user name and of the topic
pub record AnswerPasses (test : List ℕ → Bool) (client : List ℕ) (user : Option (List ℕ))
    (name : List ℕ) : Type 0 where
  pub client_passes : (client ≡ codes "+") ⊎ (list_all test (levels client) ≡ true)
  pub user_passes : user_passes test user ≡ true
  pub name_passes : list_all test (levels name) ≡ true

-- a test that the levels of the first rows and of a known user name pass, and all that stand for others, is passed by the
-- levels of the answer
abbrev pub RuledPasses : Others → Names → Clients → (must : List AclRow) → List ℕ
    → Option (List ℕ) → List ℕ → Type 0
RuledPasses others names k must client user name = (test : List ℕ → Bool)
    → test others.plain.now ≡ true → test others.dollar.now ≡ true
    → FreshPass others.plain.now test → FreshPass others.dollar.now test
    → rows_fit test must ≡ true → names_fit test names ≡ true
    → list_all test (known_levels k) ≡ true → AnswerPasses test client user name
