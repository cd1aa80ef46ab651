-- What a list of changes through a plan says of two lists.
use Rattle.std.proofs.Common.{◌≡◌, ◌⊎◌, ◌∙◌, ◌<◌, ◌&&◌, suc, length, arith, ℕ, true, false}
use Rattle.std.proofs.Common.{List, [], ◌∷◌, Option, All, refl, sym, subst, inl, inr, true≢false}
use Rattle.std.proofs.lemmas.Bool.{and_parts, false_from_ne_true, or_cases}
use Rattle.mq_acl.specs.Views.{row_views}
use Rattle.mq_acl.specs.declared.row.Row.{Row}
use Rattle.mq_acl.specs.declared.rules.Rules.{Rules}
use Rattle.mq_acl.specs.declared.rules.Rules.TheVariants.{Own}
use Rattle.mq_differences.specs.Classes.{is_in}
use Rattle.mq_differences.specs.Differences.{same_direction, same_reason, same_start, same_way}
use Rattle.mq_differences.specs.declared.way.Way.{Way}
use Rattle.mq_plan.specs.declared.rule.PlanRule.{PlanRule}
use Rattle.mq_through.specs.Through.{IsReal, Question, ShowsAll, is_changed, is_shown_of}
use Rattle.mq_through.specs.Through.{new_reason, old_reason, question_of, rule_line, same_line}
use Rattle.mq_through.specs.declared.renamed.Renamed.{Renamed}
use Rattle.mq_who.proofs.ExtentLemmas.{any_weaker}
use Rattle.mq_ask.specs.Lists.{IsTaken}
use Rattle.mq_ask_cases.specs.Ways.{is_way}
use Rattle.mq_ask.specs.declared.outcome.Outcome.{Outcome}
use Rattle.mq_ask.specs.declared.outcome.Outcome.TheVariants.{Clear, Remark}
use Rattle.mq_ask_cases.proofs.WayLemmas.{way_is}
use Rattle.mq_ask_plan.specs.Renamed.{AreRenamed}
use Rattle.mq_ask_plan.specs.declared.find.RenamedChanges.{RenamedChanges}
use Rattle.mq_ask_plan.specs.Plan.{IsComparedThrough, ShowsThrough, has_way}

-- where one is of a way that is asked about, something changes in it
some_changes : (only : Option Way) (plan : List PlanRule) (old new : List Row)
    (all : List Renamed) → has_way only all ≡ true → All (IsReal plan old new) all
    → ShowsThrough only plan old new Remark
some_changes only plan old new [] some real = absurd (true≢false (sym some))
some_changes only plan old new (r ∷ rs) some real =
    at (λ rest. some_changes only plan old new rs rest (λ place e low. real (suc place) e
    (let more : suc place < suc (length rs) = omega arith in more)))
    (or_cases (is_way only r.difference.way) (has_way only rs) some)
  where
    at : (has_way only rs ≡ true → ShowsThrough only plan old new Remark)
        → (is_way only r.difference.way ≡ true) ⊎ (has_way only rs ≡ true)
        → ShowsThrough only plan old new Remark
    at behind (inl this) =
        let is : IsReal plan old new r =
        real 0 r (let low : 0 < suc (length rs) = omega arith in low) in
        (r.difference.way, question_of r, this, is.shown.asked, is.shown.change)
    at behind (inr rest) = behind rest

of_way : (only : Option Way) (plan : List PlanRule) (old new : List Row) (way : Way)
    (q : Question) (r : Renamed) → is_way only way ≡ true
    → is_shown_of plan old new way q r ≡ true → is_way only r.difference.way ≡ true
of_way only plan old new way q r asked is =
    let class = is_in (row_views old) (row_views new) q.user r.difference.class in
    let direction = same_direction q.direction r.difference.direction in
    let ways = same_way way r.difference.way in
    let start = same_start q.topic r.difference.topic in
    let by_old = same_reason (old_reason old q) r.difference.old_reason in
    let by_new = same_reason (new_reason new q) r.difference.new_reason in
    let line = same_line (rule_line plan q.topic) r.rule in
    let six = and_parts (class && direction && ways && start && by_old && by_new) line is in
    let five = and_parts (class && direction && ways && start && by_old) by_new six.0 in
    let four = and_parts (class && direction && ways && start) by_old five.0 in
    let three = and_parts (class && direction && ways) start four.0 in
    let two = and_parts (class && direction) ways three.0 in
    subst (λ (w : Way). is_way only w ≡ true) (way_is way r.difference.way two.1) asked

-- where none is of a way that is asked about, nothing changes in it
none_changes : (only : Option Way) (plan : List PlanRule) (old new : List Row)
    (all : List Renamed) → ShowsAll plan old new all → has_way only all ≡ false
    → ShowsThrough only plan old new Clear
none_changes only plan old new all every none way q asked is =
    false_from_ne_true (is_changed way old new q)
    (λ changes. true≢false (sym (any_weaker (is_shown_of plan old new way q)
    (λ r. is_way only r.difference.way)
    (λ r shown. of_way only plan old new way q r asked shown) all
    (every way q is changes)) ∙ none))

shown : (only : Option Way) (plan : List PlanRule) (old new : List Row) (all : List Renamed)
    (outcome : Outcome) → ShowsAll plan old new all → All (IsReal plan old new) all
    → (outcome ≡ Clear → has_way only all ≡ false)
    → (outcome ≡ Remark → has_way only all ≡ true) → ShowsThrough only plan old new outcome
shown only plan old new all Clear every real none some =
    none_changes only plan old new all every (none refl)
shown only plan old new all Remark every real none some =
    some_changes only plan old new all (some refl) real

-- whether there is a change that is asked about says whether the lists decide alike through the
-- plan
pub compared_through : (rules : Rules) (only : Option Way) (old new plan : List ℕ)
    (c : RenamedChanges) (outcome : Outcome) → rules ≡ Own → IsTaken old → IsTaken new
    → AreRenamed old new plan c
    → (outcome ≡ Clear → has_way only c.renamed.items ≡ false)
    → (outcome ≡ Remark → has_way only c.renamed.items ≡ true)
    → IsComparedThrough rules only old new plan outcome
compared_through rules only old new plan c outcome own old_taken new_taken are none some = record {
  own = own;
  old_taken = old_taken;
  new_taken = new_taken;
  old_rows = c.old.items;
  new_rows = c.new.items;
  plan_rules = c.plan;
  old_read = are.old_rows;
  new_read = are.new_rows;
  plan_read = are.rules;
  shown = shown only c.plan c.old.items c.new.items c.renamed.items outcome are.every are.real none
      some;
}
