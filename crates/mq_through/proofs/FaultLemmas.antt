-- What can't be where lists and the plan are fit.
use Rattle.std.proofs.Common.{◌≡◌, ◌<◌, ◌+◌, ℕ, Bool, true, false, ◌||◌, List, Some, None}
use Rattle.std.proofs.Common.{length, refl, ap, sym, ◌∙◌, subst}
use Rattle.std.proofs.lemmas.Bool.{or_from}
use Rattle.mq_acl.specs.Views.{row_views}
use Rattle.mq_acl.specs.declared.row.Row.{Row}
use Rattle.mq_acl.specs.declared.rules.Rules.TheVariants.{Own}
use Rattle.mq_rename.specs.Lists.{IsFault, has_long, is_long}
use Rattle.mq_rename.specs.declared.fault.MeetFault.TheVariants.{TooLong}
use Rattle.mq_witness.specs.Limits.{long_line}
use Rattle.mq_witness.specs.Rows.{is_user_of}
use Rattle.mq_differences.specs.Faults.{IsComparisonFault}
use Rattle.mq_differences.specs.declared.fault.ComparisonFault.{ComparisonFault}
use Rattle.mq_differences.specs.declared.fault.ComparisonFault.TheVariants as comparison
use Rattle.mq_differences.specs.Steps.{enough_steps}
use Rattle.mq_regions.specs.Limits.{has_long_filter, has_long_row, is_long_question}
use Rattle.mq_regions.specs.Regions.{region_levels}
use Rattle.mq_regions.specs.declared.region.Region.{Region}
use Rattle.mq_plan.specs.declared.rule.PlanRule.{PlanRule}
use Rattle.mq_through.specs.Faults.{IsThroughFault}
use Rattle.mq_through.specs.Made.{AreShort, IsClient, IsCompareStop, IsComparison, IsMade}
use Rattle.mq_through.specs.Made.{IsStop}
use Rattle.mq_through.specs.Parts.{IsPart}
use Rattle.mq_through.specs.declared.comparison.Comparison.{Comparison}
use Rattle.mq_through.specs.declared.fault.ThroughFault.{ThroughFault}
use Rattle.mq_through.specs.declared.fault.ThroughFault.TheVariants as faults
use Rattle.mq_through.specs.declared.made.Made.{Made}
use Rattle.mq_through.proofs.LimitLemmas.{long_none, none_long, short_filters, short_user}

pub users_short : (c : Comparison) → IsComparison c → AreShort c.users.items
users_short c is user h =
    at (is_user_of user (row_views c.old.now)) refl (sym (is.users user) ∙ h)
  where
    at : (b : Bool) → is_user_of user (row_views c.old.now) ≡ b
        → (is_user_of user (row_views c.old.now) || is_user_of user (row_views c.new.now)) ≡ true
        → is_long user ≡ false
    at true e k = short_user user (row_views c.old.now) (none_long c.old.now is.fit.old_short) e
    at false e k = short_user user (row_views c.new.now) (none_long c.new.now is.fit.new_short)
        (sym (ap (λ b. b || is_user_of user (row_views c.new.now)) e) ∙ k)

pub short_question : (plan : List PlanRule) (region : Region) (client : List ℕ) (rows : List Row)
    → IsPart plan region → IsClient client → has_long_row (row_views rows) ≡ false
    → is_long_question region client rows ≡ false
short_question plan region client rows part is h =
    or_from (is_long client || has_long (region_levels region)) (has_long_filter rows)
    (or_from (is_long client) (has_long (region_levels region)) is.short part.of.short)
    (short_filters rows h)

pub not_too_long : (plan : List PlanRule) (region : Region) (client : List ℕ) (rows : List Row)
    → IsPart plan region → IsClient client → has_long_row (row_views rows) ≡ false
    → IsFault TooLong (is_long_question region client rows) → ⊥
not_too_long plan region client rows part is h e =
    let q : false ≡ true = sym (short_question plan region client rows part is h) ∙ e in cc

no_line : (rows : List Row) (line : ℕ) → has_long_row (row_views rows) ≡ false
    → long_line rows ≡ Some line → ⊥
no_line rows line h e = let q : None ≡ Some line = sym (long_none rows h) ∙ e in cc

pub compare_stops : (old new : List Row) (steps : ℕ) (fault : ComparisonFault)
    → has_long_row (row_views old) ≡ false → has_long_row (row_views new) ≡ false
    → IsComparisonFault Own old new steps fault → IsCompareStop fault
compare_stops old new steps comparison.Memory h k is = tt
compare_stops old new steps (comparison.OldLine line) h k is = no_line old line h is
compare_stops old new steps (comparison.NewLine line) h k is = no_line new line k is
compare_stops old new steps (comparison.OldMark line) h k is =
    let q : None ≡ Some line = is in absurd (cc)
compare_stops old new steps (comparison.NewMark line) h k is =
    let q : None ≡ Some line = is in absurd (cc)
compare_stops old new steps (comparison.GaveUp side line others) h k is = tt

-- rows that are left of a list without long rows
pub kept_short : (all kept rows : List Row) → long_line all ≡ None
    → (has_long_row (row_views all) ≡ false → has_long_row (row_views kept) ≡ false)
    → rows ≡ kept → has_long_row (row_views rows) ≡ false
kept_short all kept rows h f e =
    ap (λ (rs : List Row). has_long_row (row_views rs)) e ∙ f (none_long all h)

-- where the lists that are made have more rows than the steps are enough for, so it is of the
-- comparison
pub few_steps : (k : Comparison) (region : Region) (client : List ℕ) (m : Made)
    (old new : List Row) (fault : ThroughFault) → IsPart k.plan.now region → IsClient client
    → IsMade k region client m → old ≡ m.old.items → new ≡ m.new.items
    → IsStop (length old + length new) k.steps fault
    → IsThroughFault k.plan.now k.old.now k.new.now k.steps fault
few_steps k region client m old new faults.Memory part id is e f h = tt
few_steps k region client m old new faults.GaveUp part id is e f h = record {
  region = region;
  client = client;
  old_rows = m.old.items;
  new_rows = m.new.items;
  part = part;
  id = id;
  old_list = is.old_list;
  new_list = is.new_list;
  few = subst (λ rows. k.steps < enough_steps rows)
      (λ i. length {A = Row} (e i) + length {A = Row} (f i)) h;
}
few_steps k region client m old new (faults.OldLine line) part id is e f h = absurd h
few_steps k region client m old new (faults.NewLine line) part id is e f h = absurd h
few_steps k region client m old new (faults.OldMark line) part id is e f h = absurd h
few_steps k region client m old new (faults.NewMark line) part id is e f h = absurd h
few_steps k region client m old new (faults.Rule line) part id is e f h = absurd h
few_steps k region client m old new (faults.LongName line) part id is e f h = absurd h
few_steps k region client m old new faults.NoClient part id is e f h = absurd h
