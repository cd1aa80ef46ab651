-- What the unreached subscriptions that are found say of a script.
use Rattle.std.proofs.Common.{◌≡◌, ◌≢◌, ◌<◌, ℕ, suc, List, [], ◌∷◌, Option}
use Rattle.std.proofs.Common.{ap, arith, inl, inr, length, refl, subst, sym, ◌⊎◌}
use Rattle.std.specs.Borrow.{Bor}
use Rattle.std.specs.Io.KnownBytes.{Consumes, IsAtEnd}
use Rattle.mq_acl.specs.Views.{row_views}
use Rattle.mq_acl.specs.declared.row.Row.{Row}
use Rattle.mq_acl.specs.declared.rules.Rules.{Rules}
use Rattle.mq_jsonl.specs.Lines.{all_lines}
use Rattle.mq_reach.specs.Reach.{list_by}
use Rattle.mq_reach.specs.Search.{AreCounted, IsFound}
use Rattle.mq_reach.specs.Subscriptions.{commands_of}
use Rattle.mq_reach.specs.Tracked.{subscription_views}
use Rattle.mq_reach.specs.declared.search.Findings.{Findings}
use Rattle.mq_reach.specs.declared.subscription.Subscription.{Subscription}
use Rattle.mq_ask.specs.Lists.{AreRows}
use Rattle.mq_ask_reach.specs.Script.{GivesNoCommand, IsScriptFailure}
use Rattle.mq_ask_reach.specs.Script.{AreShown, FindsUnreached, HasCommand, SaysWhetherNone}
use Rattle.mq_ask.specs.declared.failure.Failure.{Failure}
use Rattle.mq_ask.specs.declared.failure.Failure.TheVariants as failure
use Rattle.mq_ask.specs.declared.outcome.Outcome.{Outcome}
use Rattle.mq_ask.specs.declared.outcome.Outcome.TheVariants.{Clear, Remark}

-- ## Commands

-- a script of which commands are counted has one
pub has_command : (script : List ℕ) (count : ℕ)
    → count ≡ length (commands_of (all_lines script)) → 0 < count → HasCommand script
has_command script count is some = λ none.
    let zero : length (commands_of (all_lines script)) ≡ 0 = ap length none in
    absurd (omega arith)

-- and one of which none are counted has none
pub none_counted : {X : Type 0} (all : List X) (count : ℕ) → count ≡ length all → count ≡ 0
    → all ≡ []
none_counted [] count is zero = refl
none_counted (x ∷ all) count is zero =
    absurd (let some : count ≡ suc (length all) = is in omega arith)

-- what is found of a script with commands
pub finds : (rules : Rules) (text script : List ℕ) (rows : List Row) (f : Findings)
    → AreRows rules text rows
    → IsFound (list_by rules (row_views rows)) (all_lines script) f → 0 < f.counts.commands
    → FindsUnreached rules text script f
finds rules text script rows f are found some = record {
  rows = rows;
  are_rows = are;
  found = found;
  command = has_command script f.counts.commands found.counts.commands some;
}

none_given : (before after : Option (List ℕ)) (script : List ℕ) (f : Findings)
    → Consumes before after script → IsAtEnd after → AreCounted (all_lines script) f.counts
    → f.counts.commands ≡ 0 → GivesNoCommand before after f.counts.lines
none_given before after script f takes end are zero = (
  script,
  takes,
  end,
  none_counted (commands_of (all_lines script)) f.counts.commands are.commands zero,
  are.lines,
)

-- and what is shown of one without
pub no_command : (rules : Rules) (text : List ℕ) (name : Bor (List ℕ))
    (before after : Option (List ℕ)) (script : List ℕ) (f : Findings) (shown : Failure) → Consumes before after script → IsAtEnd after
    → AreCounted (all_lines script) f.counts → f.counts.commands ≡ 0
    → (shown ≡ failure.NoCommand name f.counts.lines) ⊎ (shown ≡ failure.Log name f.counts.lines)
    → IsScriptFailure rules text name.now before after shown
no_command rules text name before after script f shown takes end are zero (inl e) =
    subst (IsScriptFailure rules text name.now before after) (sym e)
    (refl, none_given before after script f takes end are zero)
no_command rules text name before after script f shown takes end are zero (inr e) =
    subst (IsScriptFailure rules text name.now before after) (sym e)
    (refl, none_given before after script f takes end are zero)

-- ## What is shown

shown-is : (all : List Subscription) (outcome : Outcome) → (outcome ≡ Clear → all ≡ [])
    → (outcome ≡ Remark → all ≢ [])
    → SaysWhetherNone (subscription_views all) outcome
shown-is [] Clear none some = refl
shown-is (s ∷ all) Clear none some = absurd (let bad : (s ∷ all) ≡ [] = none refl in cc)
shown-is [] Remark none some = absurd (some refl refl)
shown-is (s ∷ all) Remark none some = λ e. cc

-- whether some are found shows whether there are some
pub shown : (rules : Rules) (text script : List ℕ) (f : Findings) (outcome : Outcome) → FindsUnreached rules text script f
    → (outcome ≡ Clear → f.unreached.items ≡ []) → (outcome ≡ Remark → f.unreached.items ≢ [])
    → AreShown rules text script outcome
shown rules text script f outcome finds none some = record {
  rows = row_views finds.rows;
  read = finds.are_rows.read;
  unreached = subscription_views f.unreached.items;
  are_unreached = finds.found.unreached;
  shown = shown-is f.unreached.items outcome none some;
  command = finds.command;
}
