-- What a question asks, and what it answers.
use Rattle.std.specs.Prelude.{◌≡◌, ◌⊎◌, ◌&&◌, ℕ, Bool, true, false, List, Option, Some}
use Rattle.std.specs.List.{list_all}
use Rattle.std.specs.Option.{option_copied}
use Rattle.mq_topic.specs.Levels.{levels}
use Rattle.mq_topic.specs.Texts.{is_name}
use Rattle.mq_acl.specs.Access.{begins_with_dollar}
use Rattle.mq_acl.specs.Rows.{AclRow}
use Rattle.mq_cover.specs.Remainders.{MarkLevels, hits, mark_passes, marks_pass, remainders_fit}
use Rattle.mq_cover.specs.Remainders.{FindsNothing}
use Rattle.mq_witness.specs.Clients.{can_be_id, is_of, name_passes}
use Rattle.mq_witness.specs.Decided.{decides_in}
use Rattle.mq_witness.specs.Fresh.{fresh_pass}
use Rattle.mq_witness.specs.Roots.{alike, marks_of, rows_fit}
use Rattle.mq_witness.specs.Texts.{level_of}
use Rattle.mq_witness.specs.Tried.{is_tried_client, is_tried_user}
use Rattle.mq_witness.specs.Literals.{is_named}
use Rattle.mq_witness.specs.Names.{are_begun, has_front, is_one_of, is_right, names_fit, start_at}
use Rattle.mq_shapes.specs.declared.clients.Clients.{Clients}
use Rattle.mq_witness.specs.declared.fresh.BothFresh.{BothFresh}
use Rattle.mq_witness.specs.declared.literals.Literals.{Literals}
use Rattle.mq_witness.specs.declared.names.Names.{Names}
use Rattle.mq_witness.specs.declared.question.Question.{Question}
use Rattle.mq_witness.specs.declared.question.Found.{Found}

-- for all users that the rows apply to as to this one, and names that begin as these do, it asks
-- whether the name is one of them, and what is asked of the rows
pub record Asks (front : Bool) (both : BothFresh) (user : Option (List ℕ)) (names : Names)
    (must cover : List AclRow) (q : Question) : Type 0 where
  pub fresh : (q.fresh ≡ both.plain) ⊎ (q.fresh ≡ both.dollar)
  pub kind : q.names ≡ names
  pub decides : (client name : List ℕ) (other : Option (List ℕ)) → alike other user must ≡ true
      → alike other user cover ≡ true → begins_with_dollar name ≡ are_begun names
      → hits (marks_of client other) (levels name) q.must.items q.cover.items
      ≡ (is_right names name && decides_in front client other name must cover)
  pub fit : (p : List ℕ → Bool) → rows_fit p must ≡ true → names_fit p names ≡ true
      → remainders_fit p q.must.items ≡ true

-- ---- an answer
-- with this client id, and this level for a user name, there is no such name
abbrev pub Misses : Question → List ℕ → Option (List ℕ) → Type 0
Misses q client user =
    FindsNothing (start_at q.names) 200 (marks_of client user) q.must.items q.cover.items

-- this is such a name, where the marks stand for these levels, and each of its levels passes what
-- all texts that the question knows do
pub record IsHit (q : Question) (marks : MarkLevels) (name : List ℕ) : Type 0 where
  pub valid : is_name name ≡ true
  pub kind : has_front q.names name ≡ true
  pub hit : hits marks (levels name) q.must.items q.cover.items ≡ true
  pub known : (p : List ℕ → Bool) → fresh_pass p q.fresh ≡ true
      → remainders_fit p q.must.items ≡ true → marks_pass p marks ≡ true
      → list_all p (levels name) ≡ true

-- the same with this client id, and this level for a user name
pub record Hits (q : Question) (client : List ℕ) (user : Option (List ℕ)) (name : List ℕ) :
    Type 0 where
  pub valid : is_name name ≡ true
  pub kind : has_front q.names name ≡ true
  pub hit : hits (marks_of client user) (levels name) q.must.items q.cover.items ≡ true
  pub known : (p : List ℕ → Bool) → fresh_pass p q.fresh ≡ true
      → remainders_fit p q.must.items ≡ true → p client ≡ true → mark_passes p user ≡ true
      → list_all p (levels name) ≡ true

-- with no client id that is tried there is such a name
abbrev pub MissesUser : Question → Option (List ℕ) → Type 0
MissesUser q user = (client : List ℕ)
    → is_tried_client q.fresh (level_of user) q.must.items client ≡ true
    → Misses q client (level_of user)

-- the client of this user name hits its name
pub record HitsUser (q : Question) (user : Option (List ℕ)) (found : Found) : Type 0 where
  pub user_is : option_copied found.user ≡ user
  pub client_fits : can_be_id found.client.now ≡ true
  pub hits_name : Hits q found.client.now (level_of user) found.name
  pub client_known : (p : List ℕ → Bool) → fresh_pass p q.fresh ≡ true
      → remainders_fit p q.must.items ≡ true → mark_passes p (level_of user) ≡ true
      → p found.client.now ≡ true

-- with no user name that is tried, and that isn't listed, there is such a name
abbrev pub MissesOthers : Question → Literals → Type 0
MissesOthers q users = (user : List ℕ) → is_tried_user q.fresh q.must.items user ≡ true
    → is_named user users ≡ false → MissesUser q (Some user)

-- the client hits its name, and has a user name that isn't listed
pub record HitsOther (q : Question) (users : Literals) (found : Found) : Type 0 where
  pub user : List ℕ
  pub unlisted : is_named user users ≡ false
  pub user_fits : can_be_id user ≡ true
  pub hits_user : HitsUser q (Some user) found
  pub user_known : (p : List ℕ → Bool) → fresh_pass p q.fresh ≡ true
      → remainders_fit p q.must.items ≡ true → p user ≡ true

-- its client id, its user name and the levels of its topic pass the test
pub record TextsPass (p : List ℕ → Bool) (found : Found) : Type 0 where
  pub client : p found.client.now ≡ true
  pub user : mark_passes p (option_copied found.user) ≡ true
  pub name : list_all p (levels found.name) ≡ true

-- a client that is asked about, and a topic that each of the first rows concerns and none of the
-- others does
pub record IsFoundBy (front : Bool) (names : Names) (both : BothFresh) (listed : List ℕ → Bool)
    (clients : Clients) (must cover : List AclRow) (found : Found) : Type 0 where
  pub client_fits : can_be_id found.client.now ≡ true
  pub user_fits : is_of listed clients (option_copied found.user) ≡ true
  pub valid : is_name found.name ≡ true
  pub kind : is_one_of names found.name ≡ true
  pub decided : decides_in front found.client.now (option_copied found.user) found.name must cover
      ≡ true
  pub known : (p : List ℕ → Bool) → fresh_pass p both.plain ≡ true
      → fresh_pass p both.dollar ≡ true → rows_fit p must ≡ true → names_fit p names ≡ true
      → name_passes p clients ≡ true → TextsPass p found
