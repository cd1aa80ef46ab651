-- What is asked of an access list while a message is sent, and what is kept of it.
use Rattle.std.specs.Prelude.{◌≡◌, ℕ, Bool, true, List, Option, IfSome}
use denote.Ref.{Bor}
use Rattle.std.specs.Option.{option_copied, option_eq}
use Rattle.std.specs.Cmp.Lexicographic.{pointwise}
use Rattle.std.specs.Prelude.{nat_eq}
use Rattle.std.specs.HashMap.{HashMap, get}
use Rattle.mq_acl.specs.AccessLists.{AccessList, allowed}
use Rattle.mq_acl.specs.declared.access.Direction.TheVariants.{Reading}
use Rattle.mq_world.specs.World.{Session}
use Rattle.mq_router.specs.declared.delivery.fates.Found.{Found}

-- whom a message of this topic may go to
pub record Receivers : Type 0 where
  pub access : Option AccessList
  pub sessions : List Session
  pub topic : List ℕ

abbrev pub receivers : Option AccessList → List Session → List ℕ → Receivers
receivers access sessions topic = record {
  access = access;
  sessions = sessions;
  topic = topic;
}

-- it holds of each client of the user name, or of each without one
abbrev pub IsFound : Option AccessList → List ℕ → Option (List ℕ) → Bool → Type 0
IsFound access topic user may_read = (client : List ℕ)
    → may_read ≡ allowed access client user topic Reading

-- what is allowed depends on the user name alone
abbrev pub IsCommon : Option AccessList → List ℕ → Bool → Type 0
IsCommon access topic common = common ≡ true → (a b : List ℕ) (user : Option (List ℕ))
    → allowed access a user topic Reading ≡ allowed access b user topic Reading

-- what is kept of the last user name that the list was asked about, and by user name
pub record AreFound {S : Type 0} (access : Option AccessList) (topic : List ℕ)
    (last : Option Found) (by_user : HashMap (Option (Bor (List ℕ))) Bool S) : Type 0 where
  pub of_last : IfSome last (λ found.
      IsFound access topic (option_copied found.user) found.may_read)
  pub of_users : (user : Option (Bor (List ℕ)))
      → IfSome (get (option_eq (λ x y. pointwise nat_eq x.now y.now)) by_user user)
      (IsFound access topic (option_copied user))
