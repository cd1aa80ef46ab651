-- Which subscriptions are unreached under an access list.
use Rattle.std.specs.Prelude.{◌≡◌, ◌⊎◌, ℕ, List, [], ◌∷◌, Option, IsTrue, Contains}
use Rattle.mq_topic.specs.Texts.{filter_part, is_name}
use Rattle.mq_acl.specs.AccessLists.{AccessList}
use Rattle.mq_world.specs.Lists.{Text}
use Rattle.mq_reach.specs.Reach.{Reads, ReadsNone}
use Rattle.mq_reach.specs.Subscriptions.{Kept, Subscription}

-- under none of the user names that its client's session has while it keeps the subscription may the client read a topic
-- that its filter matches
abbrev pub IsUnreached : AccessList → Kept → Type 0
IsUnreached list kept = (user : Option Text) → Contains kept.users user
    → ReadsNone list kept.shown.client user (filter_part kept.shown.filter)

-- under this one of them the client may read this topic, which its filter matches
pub record IsReached (list : AccessList) (kept : Kept) : Type 0 where
  pub user : Option Text
  pub had : Contains kept.users user
  pub topic : List ℕ
  pub valid : IsTrue (is_name topic)
  pub reads : Reads list kept.shown.client user (filter_part kept.shown.filter) topic

-- of all these subscriptions exactly those that are shown are unreached; they stand in the same
-- order
abbrev pub AreUnreached : AccessList → (all : List Kept) → (shown : List Subscription) → Type 0
AreUnreached list [] shown = shown ≡ []
AreUnreached list (kept ∷ all) shown =
    (IsReached list kept × AreUnreached list all shown)
    ⊎ (IsUnreached list kept × ((later : List Subscription) × (shown ≡ kept.shown ∷ later)
    × AreUnreached list all later))
