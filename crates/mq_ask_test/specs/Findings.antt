-- What comes of a line of a file of expectations.
use Rattle.std.specs.Prelude.{◌≡◌, ℕ, Bool, true, false, List, Option, Some, None, Result, Ok, Err, IsSomeAnd}
use Rattle.std.specs.Prelude.{All, Contains}
use Rattle.std.specs.List.{list_all}
use Rattle.mq_topic.specs.Levels.{levels}
use Rattle.mq_topic.specs.Texts.{is_name}
use Rattle.mq_acl.specs.AccessLists.{allow_by}
use Rattle.mq_acl.specs.Lines.{is_pattern_level}
use Rattle.mq_acl.specs.Views.{row_views}
use Rattle.mq_acl.specs.declared.access.Direction.{Direction}
use Rattle.mq_acl.specs.declared.row.Row.{Row}
use Rattle.mq_acl.specs.declared.rules.Rules.{Rules}
use Rattle.mq_acl.specs.declared.rules.Rules.TheVariants.{Mosquitto}
use Rattle.mq_witness.specs.Clients.{can_be_id}
use Rattle.mq_witness.specs.Limits.{has_short_levels}
use Rattle.mq_differences.specs.Classes.{can_be_user}
use Rattle.mq_differences.specs.Differences.{IsReal}
use Rattle.mq_differences.specs.declared.way.Way.{Way}
use Rattle.mq_differences.specs.declared.way.Way.TheVariants.{Gained, Lost}
use Rattle.mq_expect.specs.Expectations.{AtLeast, AtMost, Claim, Claims, Entry}
use Rattle.mq_expect.specs.declared.fault.ExpectationKind.{ExpectationKind}
use Rattle.mq_who.specs.Claims.{IsJudgement}
use Rattle.mq_who.specs.declared.judge.Judgement.TheVariants as judged
use Rattle.mq_ask_test.specs.Lists.{rows_in}
use Rattle.mq_ask_test.specs.Questions.{Question, asked_view}
use Rattle.mq_ask_test.specs.declared.finding.Finding.{Finding}
use Rattle.mq_ask_test.specs.declared.finding.Finding.TheVariants as found
use Rattle.mq_ask_test.specs.declared.list.ReadList.{ReadList}
use Rattle.mq_ask_test.specs.declared.verdicts.Verdict.{Verdict}

abbrev pub is_holds : Finding → Bool
is_holds found.Holds = true
is_holds finding = false

-- ---- of what clients may
abbrev pub IsClaimed : Rules → List Row → Claim → Finding → Type 0
IsClaimed rules rows claim found.Holds = IsJudgement rules rows claim judged.Holds
IsClaimed rules rows claim (found.Fails d) = IsJudgement rules rows claim (judged.Fails d)
IsClaimed rules rows claim (found.NoneMay direction) =
    IsJudgement rules rows claim (judged.NoneMay direction)
IsClaimed rules rows claim (found.Unnamed user) =
    IsJudgement rules rows claim (judged.Unnamed user)
IsClaimed rules rows claim (found.Refused direction) =
    IsJudgement rules rows claim (judged.Refused direction)
IsClaimed rules rows claim found.LongLevel = has_short_levels claim.topics ≡ false
IsClaimed rules rows claim found.PartMark =
    (rules ≡ Mosquitto) × (list_all is_pattern_level (levels claim.topics) ≡ false)
IsClaimed rules rows claim finding = ⊥

-- ---- of two lists
-- whatever the one list allows to a client that a broker can have, the other allows
abbrev pub IsWithin : Rules → (inner outer : List Row) → Type 0
IsWithin rules inner outer = (direction : Direction) (client topic : List ℕ)
    (user : Option (List ℕ)) → can_be_id client ≡ true → can_be_user user ≡ true
    → is_name topic ≡ true → allow_by rules (row_views inner) client user topic direction ≡ true
    → allow_by rules (row_views outer) client user topic direction ≡ true

-- the list allows at most what the other one does, or at least that
abbrev pub IsKept : Rules → Way → (bound rows : List Row) → Type 0
IsKept rules Gained bound rows = IsWithin rules rows bound
IsKept rules Lost bound rows = IsWithin rules bound rows

-- it does; or the list allows something more than the other one, or something less, as the difference
-- shows
abbrev pub IsBound : Rules → Way → (bound rows : List Row) → Finding → Type 0
IsBound rules way bound rows found.Holds = IsKept rules way bound rows
IsBound rules way bound rows (found.Differs d) = IsReal rules bound rows d × (d.way ≡ way)
IsBound rules way bound rows finding = ⊥

-- ---- of a line
-- what is said of the rows of a list is so
abbrev pub IsSaid : Rules → List ReadList → List Row → Entry → Finding → Type 0
IsSaid rules lists rows (Claims claim) finding = IsClaimed rules rows claim finding
IsSaid rules lists rows (AtMost file) finding =
    IsSomeAnd (rows_in lists file) (λ bound. IsBound rules Gained bound rows finding)
IsSaid rules lists rows (AtLeast file) finding =
    IsSomeAnd (rows_in lists file) (λ bound. IsBound rules Lost bound rows finding)
IsSaid rules lists rows entry finding = finding ≡ found.Holds

-- and of the list that a line without a fault speaks of, if one is named
abbrev pub IsSaidOf : Rules → List ReadList → Option (List ℕ) → Entry → Finding → Type 0
IsSaidOf rules lists None entry finding = finding ≡ found.NoList
IsSaidOf rules lists (Some file) entry finding =
    IsSomeAnd (rows_in lists file) (λ rows. IsSaid rules lists rows entry finding)

abbrev pub IsSaidBy : Rules → List ReadList → Option (List ℕ) → Result Entry ExpectationKind
    → Finding → Type 0
IsSaidBy rules lists list (Ok entry) finding = IsSaidOf rules lists list entry finding
IsSaidBy rules lists list (Err kind) finding = finding ≡ found.Fault kind

abbrev pub IsFinding : Rules → List ReadList → Question → Finding → Type 0
IsFinding rules lists q finding = IsSaidBy rules lists q.list q.says finding

abbrev pub IsVerdict : Rules → List ReadList → Verdict → Type 0
IsVerdict rules lists v = IsFinding rules lists (asked_view v.asked) v.finding

-- ---- of a file
-- each line that asks something holds
abbrev pub AllHold : Rules → List ReadList → List Question → Type 0
AllHold rules lists all = All (λ q. IsFinding rules lists q found.Holds) all

-- one doesn't, as is said of it
pub record SomeFails (rules : Rules) (lists : List ReadList) (all : List Question) : Type 0 where
  pub question : Question
  pub asked : Contains all question
  pub finding : Finding
  pub fails : is_holds finding ≡ false
  pub is : IsFinding rules lists question finding

abbrev pub SaysWhetherAll : Rules → List ReadList → List Question → Bool → Type 0
SaysWhetherAll rules lists all true = AllHold rules lists all
SaysWhetherAll rules lists all false = SomeFails rules lists all
