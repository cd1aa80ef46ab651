-- What is odd or needless in a list.
use Rattle.std.specs.List.{list_any}
use Rattle.std.specs.Prelude.{◌≡◌, ◌≢◌, ◌⊎◌, ℕ, Bool, true, false, List, [], Ok, Err, length, ◌<◌}
use Rattle.mq_acl.specs.Rows.{rows_by}
use Rattle.mq_acl.specs.declared.fault.AclFault.{AclFault}
use Rattle.mq_acl.specs.declared.row.Row.{Row}
use Rattle.mq_acl.specs.declared.rules.Rules.{Rules}
use Rattle.mq_acl.specs.declared.rules.Rules.TheVariants.{Mosquitto}
use Rattle.mq_ask.specs.Failures.{IsListFailure, IsRowLine}
use Rattle.mq_ask.specs.Lists.{AreRows, IsTaken}
use Rattle.mq_ask.specs.declared.failure.Failure.{Failure}
use Rattle.mq_print.specs.declared.list.ListText.{ListText}
use Rattle.mq_ask.specs.declared.outcome.Outcome.{Outcome}
use Rattle.mq_ask.specs.declared.outcome.Outcome.TheVariants.{Clear, Remark as Shown}
use Rattle.mq_ask_lint.specs.declared.lint.Remarks.{Remarks}
use Rattle.mq_differences.specs.Steps.{enough_steps}
use Rattle.mq_lint.specs.Needless.{AreNeedless}
use Rattle.mq_lint.specs.Remarks.{remarks_of}
use Rattle.mq_lint.specs.declared.remark.Remark.{Remark}
use Rattle.mq_lint.specs.declared.remark.RemarkKind.{RemarkKind}
use Rattle.mq_lint.specs.declared.remark.RemarkKind.TheVariants.{Fault, DeniesNothing}
use Rattle.mq_ask.specs.declared.failure.Failure.TheVariants as failure

abbrev pub is_fault : RemarkKind → Bool
is_fault (Fault kind) = true
is_fault kind = false

-- the remark says more than that a line denies nothing: such a line may guard
abbrev pub matters : RemarkKind → Bool
matters DeniesNothing = false
matters kind = true

abbrev pub has_fault : List Remark → Bool
has_fault all = list_any (λ remark. is_fault remark.kind) all

abbrev pub has_needless : List Remark → Bool
has_needless all = list_any (λ remark. matters remark.kind) all

-- these are the lines of the text that repeat another, deny nothing or are needless
pub record IsNeedlessIn (rules : Rules) (text : List ℕ) (shown : List Remark) : Type 0 where
  pub rows : List Row
  pub are_rows : AreRows rules text rows
  pub shown_of : AreNeedless rules rows shown

-- these are the remarks on the text; needless lines are shown of one without faults, and whether it has
-- no rows
pub record AreRemarks (rules : Rules) (text : List ℕ) (r : Remarks) : Type 0 where
  pub odd : r.odd.items ≡ remarks_of rules text
  pub none : has_fault r.odd.items ≡ true → r.needless.items ≡ []
  pub all : has_fault r.odd.items ≡ false → IsNeedlessIn rules text r.needless.items
  pub empty : r.is_empty ≡ true → rows_by rules text ≡ Ok []
  pub full : has_fault r.odd.items ≡ false → r.is_empty ≡ false → rows_by rules text ≢ Ok []

-- nothing is odd about the lines of the text, they have no fault, there is a row, and of none more is shown than that it
-- denies nothing
pub record IsClean (rules : Rules) (text : List ℕ) : Type 0 where
  pub even : remarks_of rules text ≡ []
  pub rows : List Row
  pub are_rows : AreRows rules text rows
  pub some : rows_by rules text ≢ Ok []
  pub shown : List Remark
  pub are_shown : AreNeedless rules rows shown
  pub quiet : has_needless shown ≡ false

-- of some line of the text it is shown that it repeats another, or is needless
pub record HasNeedless (rules : Rules) (text : List ℕ) : Type 0 where
  pub rows : List Row
  pub are_rows : AreRows rules text rows
  pub shown : List Remark
  pub are_shown : AreNeedless rules rows shown
  pub counts : has_needless shown ≡ true

-- whether something is odd, faulty or needless is shown, or that nothing is allowed
abbrev pub IsLinted : Rules → List ℕ → Outcome → Type 0
IsLinted rules text Clear = IsClean rules text
IsLinted rules text Shown = (remarks_of rules text ≢ []) ⊎ HasNeedless rules text
    ⊎ (rows_by rules text ≡ Ok [])

-- mosquitto doesn't take a line of the text
abbrev pub IsRefused : (text : List ℕ) → Type 0
IsRefused text = (fault : AclFault) × (rows_by Mosquitto text ≡ Err fault)

-- whether mosquitto takes each line is shown
abbrev pub SaysWhetherTaken : (text : List ℕ) → Bool → Type 0
SaysWhetherTaken text true = IsTaken text
SaysWhetherTaken text false = IsRefused text

-- ---- why nothing is answered
-- so many steps didn't suffice to know whether a row of the list is needed; more are enough
abbrev pub IsGivenUp : Rules → ListText → (steps : ℕ) → Failure → Type 0
IsGivenUp rules list steps (failure.GaveUp file line others) = (rows : List Row)
    × AreRows rules list.text.now rows × IsRowLine list rows file.now line
    × (steps < enough_steps (length rows))
IsGivenUp rules list steps other = ⊥

-- what is shown of a list that is linted is so
abbrev pub IsLintFailure : Rules → ListText → (steps : ℕ) → Failure → Type 0
IsLintFailure rules list steps failure =
    IsListFailure rules list failure ⊎ IsGivenUp rules list steps failure
