-- Which levels are found: those of the rows, those of a user name that is asked about, and those that stand for others.
use Rattle.std.specs.Prelude.{◌≡◌, ℕ, Bool, true, false, List, Option, None}
use Rattle.std.specs.List.{list_all, list_any}
use Rattle.mq_topic.specs.Levels.{levels}
use Rattle.mq_acl.specs.Rows.{AclRow}
use Rattle.mq_cover.specs.declared.others.Others.{Others}
use Rattle.mq_unify.specs.Clients.{user_fits, user_passes}
use Rattle.mq_unify.specs.Rows.{rows_fit}
use Rattle.mq_unify.specs.Unlike.{FreshPass}
use Rattle.mq_unify.specs.declared.shape.UserShape.{UserShape}
use Rattle.mq_shapes.specs.Every.{has_user_mark}
use Rattle.mq_shapes.specs.Found.{all_fit}

-- each level passes the test
pub record LevelsPass (test : List ℕ → Bool) (client : List ℕ) (user : Option (List ℕ))
    (topic : List ℕ) : Type 0 where
  pub client_passes : list_all test (levels client) ≡ true
  pub user_passes : user_passes test user ≡ true
  pub topic_passes : list_all test (levels topic) ≡ true

-- a client without a user name isn't asked about by rows with `%u`
abbrev pub IsAsked : Option (List ℕ) → List AclRow → Type 0
IsAsked user must = user ≡ None → list_any has_user_mark must ≡ false

-- a test that the levels of the filters pass, and both that stand for others, is passed by those of the topic
abbrev pub TopicPasses : Others → (must : List (List (List ℕ))) → List ℕ → Type 0
TopicPasses others must topic = (test : List ℕ → Bool) → test others.plain.now ≡ true
    → test others.dollar.now ≡ true → all_fit test must ≡ true
    → list_all test (levels topic) ≡ true

-- and so of rows that are asked as they are written
abbrev pub OwnPasses : Others → (must : List AclRow) → (topic : List ℕ) → Type 0
OwnPasses others must topic = (test : List ℕ → Bool) → test others.plain.now ≡ true
    → test others.dollar.now ≡ true → rows_fit test must ≡ true
    → list_all test (levels topic) ≡ true

-- and of any, if the client's levels pass it too
abbrev pub ClientTopicPasses : Others → (must : List AclRow) → (client : List ℕ)
    → Option (List ℕ) → (topic : List ℕ) → Type 0
ClientTopicPasses others must client user topic = (test : List ℕ → Bool)
    → test others.plain.now ≡ true → test others.dollar.now ≡ true → rows_fit test must ≡ true
    → list_all test (levels client) ≡ true → user_passes test user ≡ true → IsAsked user must
    → list_all test (levels topic) ≡ true

-- a test that the levels of the rows and of the known user name pass, both that stand for others, and all texts that begin
-- with this one and a number, is passed by all levels
abbrev pub ShapePasses : Others → (prefix : List ℕ) → UserShape → (must : List AclRow)
    → (client : List ℕ) → Option (List ℕ) → (topic : List ℕ) → Type 0
ShapePasses others prefix of must client user topic = (test : List ℕ → Bool)
    → test others.plain.now ≡ true → test others.dollar.now ≡ true → FreshPass prefix test
    → rows_fit test must ≡ true → user_fits test of ≡ true → IsAsked user must
    → LevelsPass test client user topic

-- the same, where these are the levels of the user name that is asked about
abbrev pub Passes : Others → (prefix : List ℕ) → (known : List (List ℕ)) → (must : List AclRow)
    → (client : List ℕ) → Option (List ℕ) → (topic : List ℕ) → Type 0
Passes others prefix known must client user topic = (test : List ℕ → Bool)
    → test others.plain.now ≡ true → test others.dollar.now ≡ true → FreshPass prefix test
    → rows_fit test must ≡ true → list_all test known ≡ true → LevelsPass test client user topic
