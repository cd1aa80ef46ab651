-- What is kept of user names stays true as more is kept.
use Rattle.std.proofs.Common.{◌≡◌, ℕ, Bool, true, false, cond, List, Option, Some, None, IfSome, Result, Bor}
use Rattle.std.proofs.Common.{Ok, Err, OnOk, OnErr, refl, ap, ◌∙◌, nat_eq, arith}
use Rattle.std.specs.Cmp.Lexicographic.{pointwise}
use Rattle.std.specs.HashMap.{HashMap, get, Updates, IsUnchanged}
use Rattle.std.specs.Option.{option_copied, option_eq}
use Rattle.mq_acl.specs.AccessLists.{AccessList, allowed}
use Rattle.mq_acl.specs.declared.access.Direction.TheVariants.{Reading}
use Rattle.mq_topic.proofs.ByteLemmas.{text_is}
use Rattle.mq_router.specs.delivery.Fates.{IsFound}

abbrev User : Type 0
User = Option (Bor (List ℕ))

abbrev is_same : User → User → Bool
is_same = option_eq (λ x y. pointwise nat_eq x.now y.now)

same_user : (a b : User) → is_same a b ≡ true → option_copied a ≡ option_copied b
same_user None None h = refl
same_user (Some a) (Some b) h = ap Some (text_is a.now b.now h)
same_user None (Some b) h = grind (arith, h)
same_user (Some a) None h = grind (arith, h)

module _ {S : Type 0} (access : Option AccessList) (topic : List ℕ)
    (m n : HashMap User Bool S) (user : User) (may_read : Bool) where
  abbrev HoldsAt : HashMap User Bool S → User → Type 0
  HoldsAt kept q = IfSome (get is_same kept q) (IsFound access topic (option_copied q))

  held : (q : User) (same : Bool) → is_same user q ≡ same
      → IsFound access topic (option_copied user) may_read
      → get is_same n q ≡ cond same (Some may_read) (get is_same m q)
      → HoldsAt m q → HoldsAt n q
  held q true e found is before = rw is (λ client. found client
      ∙ ap (λ u. allowed access client u topic Reading) (same_user user q e))
  held q false e found is before = rw is before

  pub found_stays : {V W : Type 0} (result : Result V W) → IsFound access topic (option_copied user) may_read
      → OnOk result (Updates is_same m n user (Some may_read))
      → OnErr result (IsUnchanged m n)
      → ((q : User) → HoldsAt m q) → (q : User) → HoldsAt n q
  found_stays (Ok v) found updates unchanged before q =
      held q (is_same user q) refl found (updates.0 q) (before q)
  found_stays (Err w) found updates unchanged before q = grind (arith, before q)
