-- Whether a subscription of a client can be sent something.
use Rattle.std.specs.Prelude.{IsTrue, List, None, Ok, Option, Some, false, true, ℕ, ◌⊎◌, ◌≡◌}
use Rattle.mq_acl.specs.AccessLists.{allow_by}
use Rattle.mq_acl.specs.Rows.{AclRow, rows_by}
use Rattle.mq_acl.specs.declared.access.Direction.TheVariants.{Reading}
use Rattle.mq_acl.specs.declared.rules.Rules.{Rules}
use Rattle.mq_ask.specs.declared.failure.Failure.{Failure}
use Rattle.mq_ask.specs.declared.failure.Failure.TheVariants as failure
use Rattle.mq_ask.specs.declared.outcome.Outcome.{Outcome}
use Rattle.mq_ask.specs.declared.outcome.Outcome.TheVariants.{Clear, Remark}
use Rattle.mq_reach.specs.Reach.{can_fill, is_short_user}
use Rattle.mq_topic.specs.Levels.{levels}
use Rattle.mq_topic.specs.Matching.{matches}
use Rattle.mq_topic.specs.Texts.{filter_part, is_name, is_subscription}
use Rattle.mq_witness.specs.Limits.{has_short_levels, is_short}

-- the topic, if there is one, is such that the subscription's filter matches it (MQTT 5.0, section 4.7) and the client may
-- read it by these rules; and else no topic is
abbrev pub IsReach : Rules → (text client : List ℕ) → Option (List ℕ) → (subscription : List ℕ)
    → Option (List ℕ) → Type 0
IsReach rules text client user subscription (Some topic) = record {
  rows : List AclRow;
  read : rows_by rules text ≡ Ok rows;
  matched : matches (levels (filter_part subscription)) (levels topic) ≡ true;
  may_read : allow_by rules rows client user topic Reading ≡ true;
}
IsReach rules text client user subscription None = record {
  rows : List AclRow;
  read : rows_by rules text ≡ Ok rows;
  no_topic : (topic : List ℕ) → IsTrue (is_name topic)
      → matches (levels (filter_part subscription)) (levels topic) ≡ true
      → allow_by rules rows client user topic Reading ≡ false;
}

-- whether there is a topic is shown
abbrev pub IsReached : Rules → (text client : List ℕ) → Option (List ℕ)
    → (subscription : List ℕ) → Outcome → Type 0
IsReached rules text client user subscription Clear =
    (topic : List ℕ) × IsTrue (is_name topic) × IsReach rules text client user subscription (Some topic)
IsReached rules text client user subscription Remark =
    IsReach rules text client user subscription None

-- a subscription is none; or it, its client id or its user name is too long, or a row with the client's texts in it
abbrev pub IsWordFailure : Rules → (text client : List ℕ) → (user : Option (List ℕ))
    → (subscription : List ℕ) → Failure → Type 0
IsWordFailure rules text client user subscription (failure.Filter given) =
    (given.now ≡ subscription) × (is_subscription subscription ≡ false)
IsWordFailure rules text client user subscription failure.LongPattern = (rows : List AclRow)
    × (rows_by rules text ≡ Ok rows) × (can_fill rules rows client user ≡ false)
IsWordFailure rules text client user subscription failure.LongWord =
    (is_short client ≡ false) ⊎ (is_short_user user ≡ false)
    ⊎ (has_short_levels (filter_part subscription) ≡ false)
IsWordFailure rules text client user subscription other = ⊥
