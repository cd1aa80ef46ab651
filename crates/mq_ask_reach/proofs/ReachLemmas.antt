-- What a topic that is found says of a subscription.
use Rattle.std.proofs.Common.{◌≡◌, ℕ, List, Option, Some, None, IfNone, IfSome, IsTrue, true, refl}
use Rattle.std.proofs.Common.{subst, sym}
use Rattle.mq_topic.specs.Levels.{levels}
use Rattle.mq_topic.specs.Matching.{matches}
use Rattle.mq_topic.specs.Texts.{filter_part, is_name}
use Rattle.mq_acl.specs.Views.{row_views}
use Rattle.mq_acl.specs.declared.row.Row.{Row}
use Rattle.mq_acl.specs.declared.rules.Rules.{Rules}
use Rattle.mq_reach.specs.Reach.{Reads, ReadsNone, list_by}
use Rattle.mq_ask.specs.Lists.{AreRows}
use Rattle.mq_ask_reach.specs.Reach.{IsReach, IsReached}
use Rattle.mq_ask.specs.declared.outcome.Outcome.{Outcome}
use Rattle.mq_ask.specs.declared.outcome.Outcome.TheVariants.{Clear, Remark}

-- whether a topic is found shows whether there is one
pub reached : (rules : Rules) (text client : List ℕ) (user : Option (List ℕ))
    (subscription : List ℕ)
    (found : Option (List ℕ)) (outcome : Outcome)
    → IsReach rules text client user subscription found
    → (outcome ≡ Clear → (topic : List ℕ) × (found ≡ Some topic) × IsTrue (is_name topic))
    → (outcome ≡ Remark → found ≡ None) → IsReached rules text client user subscription outcome
reached rules text client user subscription found Clear reach some none =
    let topic = some refl in
    (topic.0, topic.2, subst (IsReach rules text client user subscription) topic.1 reach)
reached rules text client user subscription found Remark reach some none =
    subst (IsReach rules text client user subscription) (none refl) reach

-- what the filter of a subscription can be sent is what the subscription can
pub found_in : (rules : Rules) (text client : List ℕ) (user : Option (List ℕ))
    (subscription filter : List ℕ) (rows : List Row) (found : Option (List ℕ))
    → AreRows rules text rows → filter ≡ filter_part subscription
    → IfNone found (ReadsNone (list_by rules (row_views rows)) client user filter)
    → IfSome found (Reads (list_by rules (row_views rows)) client user filter)
    → IsReach rules text client user subscription found
found_in rules text client user subscription filter rows None are is none some = record {
  rows = row_views rows;
  read = are.read;
  no_topic = λ topic named matched.
      none topic named
      (subst (λ (f : List ℕ). matches (levels f) (levels topic) ≡ true) (sym is) matched);
}
found_in rules text client user subscription filter rows (Some topic) are is none some = record {
  rows = row_views rows;
  read = are.read;
  matched = subst (λ (f : List ℕ). matches (levels f) (levels topic) ≡ true) is some.matched;
  may_read = some.may_read;
}
