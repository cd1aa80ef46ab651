-- What the remarks on a list say of it.
use Rattle.std.proofs.Common.{◌≡◌, ◌≢◌, ◌⊎◌, ◌∙◌, ℕ, Bool, true, false}
use Rattle.std.proofs.Common.{true≢false, inl, inr, List, [], ◌∷◌, refl, sym}
use Rattle.std.proofs.Common.{ap}
use Rattle.std.specs.Prelude.{◌||◌}
use Rattle.mq_acl.specs.Lines.{lines}
use Rattle.mq_acl.specs.Rows.{entries_by, faults_by, rows_in, unless_faulty}
use Rattle.mq_acl.specs.declared.fault.AclFault.{AclFault}
use Rattle.mq_acl.specs.declared.rules.Rules.{Rules}
use Rattle.mq_lint.specs.Remarks.{faults_shown}
use Rattle.mq_lint.specs.declared.remark.Remark.{Remark}
use Rattle.mq_lint.specs.declared.remark.RemarkKind.{RemarkKind}
use Rattle.mq_lint.specs.declared.remark.RemarkKind.TheVariants as kinds_of
use Rattle.mq_ask.specs.Failures.{IsFaultyLine}
use Rattle.mq_ask_lint.specs.Lint.{AreRemarks, HasNeedless, IsLinted, IsNeedlessIn}
use Rattle.mq_ask_lint.specs.Lint.{has_fault, has_needless, is_fault}
use Rattle.mq_ask.specs.declared.outcome.Outcome.{Outcome}
use Rattle.mq_ask.specs.declared.outcome.Outcome.TheVariants.{Clear, Remark as Shown}
use Rattle.mq_ask_lint.specs.declared.lint.Remarks.{Remarks}

needless_of : {rules : Rules} {text : List ℕ} {shown : List Remark} → IsNeedlessIn rules text shown
    → has_needless shown ≡ true → HasNeedless rules text
needless_of {rules} {text} {shown} is some = record {
  rows = is.rows;
  are_rows = is.are_rows;
  shown = shown;
  are_shown = is.shown_of;
  counts = some;
}

odd_or_needless : (rules : Rules) (text : List ℕ) (r : Remarks) → AreRemarks rules text r
    → (r.odd.items ≢ []) ⊎ (has_needless r.needless.items ≡ true) ⊎ (r.is_empty ≡ true)
    → IsLinted rules text Shown
odd_or_needless rules text r are (inl odd) = inl (λ e. odd (are.odd ∙ e))
odd_or_needless rules text r are (inr (inr empty)) = inr (inr (are.empty empty))
odd_or_needless rules text r are (inr (inl some)) = go (has_fault r.odd.items) refl
  where
    go : (b : Bool) → has_fault r.odd.items ≡ b → IsLinted rules text Shown
    go true faulty =
        absurd (true≢false (sym some ∙ ap has_needless (are.none faulty)))
    go false clean = inr (inl (needless_of (are.all clean) some))

-- ---- a text with a fault
first_fault : (odd : List Remark) → has_fault odd ≡ true
    → (f : AclFault) × ((rest : List AclFault) × (faults_shown odd ≡ f ∷ rest))
first_fault [] e = absurd (true≢false (sym e))
first_fault (r ∷ rs) e = at r.kind e (first_fault rs)
  where
    at : (kind : RemarkKind) → (is_fault kind || has_fault rs) ≡ true
        → (has_fault rs ≡ true → (f : AclFault) × ((rest : List AclFault)
        × (faults_shown rs ≡ f ∷ rest)))
        → (f : AclFault) × ((rest : List AclFault)
        × (faults_shown (record { line = r.line; kind = kind } ∷ rs) ≡ f ∷ rest))
    at (kinds_of.Fault kind) e behind =
        (record { line = r.line; kind = kind }, (faults_shown rs, refl))
    at kinds_of.NoMark e behind = behind e
    at kinds_of.IndentedComment e behind = behind e
    at kinds_of.Tab e behind = behind e
    at kinds_of.Hidden e behind = behind e
    at (kinds_of.Repeats line) e behind = behind e
    at kinds_of.DeniesNothing e behind = behind e
    at (kinds_of.Needless by) e behind = behind e

-- such a text has a first faulty line
pub faulty_of : (rules : Rules) (text : List ℕ) (odd : List Remark) → has_fault odd ≡ true
    → faults_shown odd ≡ faults_by rules (lines text)
    → (line : ℕ) × IsFaultyLine rules text line
faulty_of rules text odd some same =
    let first = first_fault odd some in
    let fails = ap (λ faults. unless_faulty faults (rows_in (entries_by rules (lines text))))
    (sym same ∙ first.1.1) in
    (first.0.line, (first.0, fails, refl))

-- the remarks on a text show how it is linted
pub linted : (rules : Rules) (text : List ℕ) (r : Remarks) (outcome : Outcome)
    → AreRemarks rules text r
    → (outcome ≡ Clear → (r.odd.items ≡ []) × (has_needless r.needless.items ≡ false)
    × (r.is_empty ≡ false))
    → (outcome ≡ Shown → (r.odd.items ≢ []) ⊎ (has_needless r.needless.items ≡ true)
    ⊎ (r.is_empty ≡ true))
    → IsLinted rules text outcome
linted rules text r Clear are none some =
    let nothing = none refl in
    let is = are.all (ap has_fault nothing.0) in
    record {
      even = sym are.odd ∙ nothing.0;
      rows = is.rows;
      are_rows = is.are_rows;
      some = are.full (ap has_fault nothing.0) nothing.2;
      shown = r.needless.items;
      are_shown = is.shown_of;
      quiet = nothing.1;
    }
linted rules text r Shown are none some = odd_or_needless rules text r are (some refl)
