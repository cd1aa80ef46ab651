-- A topic for one client id, and one user name or none.
use Rattle.std.specs.Prelude.{◌≡◌, ℕ, true, false, List, Option, Some, ⊤}
use Rattle.std.specs.List.{list_all}
use Rattle.mq_topic.specs.Texts.{is_name}
use Rattle.mq_acl.specs.Access.{begins_with_dollar}
use Rattle.mq_acl.specs.Refused.{refuses}
use Rattle.mq_acl.specs.Rows.{AclRow}
use Rattle.mq_acl.specs.declared.access.Direction.TheVariants.{Reading}
use Rattle.mq_acl.specs.declared.rules.Rules.{Rules}
use Rattle.mq_cover.specs.Names.{is_choice}
use Rattle.mq_cover.specs.Remainders.{MarkLevels, mark_passes, marks_pass}
use Rattle.mq_witness.specs.Decided.{decides}
use Rattle.mq_witness.specs.Limits.{has_short_levels, is_short, is_short_level}
use Rattle.mq_witness.specs.Names.{is_one_of}
use Rattle.mq_witness.specs.Ready.{NamesNone}
use Rattle.mq_witness.specs.Roots.{rows_fit}
use Rattle.mq_witness.specs.Texts.{level_of}
use Rattle.mq_witness.specs.declared.fault.LimitFault.{LimitFault}
use Rattle.mq_witness.specs.declared.fault.LimitFault.TheVariants as limit
use Rattle.mq_witness.specs.declared.fresh.Fresh.{Fresh}
use Rattle.mq_witness.specs.declared.names.Names.{Names}

-- of no topic that clients may read by these rules do all first rows, and none of the others, concern
-- what the client does
abbrev pub FindsNoTopic : Rules → List ℕ → Option (List ℕ) → (must cover : List AclRow) → Type 0
FindsNoTopic rules client user must cover = (name : List ℕ) → is_name name ≡ true
    → refuses rules Reading name ≡ false → decides client user name must cover ≡ false

-- of this topic they do
pub record IsTopic (rules : Rules) (client : List ℕ) (user : Option (List ℕ))
    (must cover : List AclRow) (name : List ℕ) : Type 0 where
  pub valid : is_name name ≡ true
  pub taken : refuses rules Reading name ≡ false
  pub decided : decides client user name must cover ≡ true

-- of this topic, one of these names, they do
pub record IsTopicOf (names : Names) (client : List ℕ) (user : Option (List ℕ))
    (must cover : List AclRow) (name : List ℕ) : Type 0 where
  pub valid : is_name name ≡ true
  pub is_one : is_one_of names name ≡ true
  pub decided : decides client user name must cover ≡ true

-- ---- the limit
-- the client id, the user name, or a level of a row is longer than 300 bytes
abbrev pub IsLimitFault : List ℕ → Option (List ℕ) → List AclRow → LimitFault → Type 0
IsLimitFault client user must limit.Memory = ⊤
IsLimitFault client user must limit.Client = is_short client ≡ false
IsLimitFault client user must limit.User = mark_passes is_short user ≡ false
IsLimitFault client user must limit.Row =
    list_all (λ row. has_short_levels row.filter) must ≡ false

-- none of them is
pub record AreWithin (client : List ℕ) (user : Option (List ℕ)) (must : List AclRow) : Type 0 where
  pub client_short : is_short client ≡ true
  pub user_short : mark_passes is_short user ≡ true
  pub must_short : rows_fit is_short_level must ≡ true

-- ---- the client's levels
-- the levels that a client id and a user name are, as far as they can be levels
abbrev pub level_marks : List ℕ → Option (List ℕ) → MarkLevels
level_marks client user = record { client = level_of (Some client); user = level_of user }

-- neither the rows nor the ids name a text that stands for others
pub record IsReadyFor (f : Fresh) (client : List ℕ) (user : Option (List ℕ))
    (must cover : List AclRow) : Type 0 where
  pub names_none : NamesNone f must cover
  pub begin : begins_with_dollar f.client.now ≡ false
  pub marks_fit : marks_pass (is_choice f.others) (level_marks client user) ≡ true
