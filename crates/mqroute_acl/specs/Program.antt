-- What the program does.
use Rattle.std.specs.Prelude.{◌≡◌, ◌⊎◌, ℕ, List, Option, Some, None, string_bytes}
use Rattle.std.specs.Io.KnownBytes.{Appends}
use Rattle.mq_acl.specs.declared.rules.Rules.{Rules}
use Rattle.mq_args.specs.declared.usage.UsageFault.{UsageFault}
use Rattle.mq_args.specs.declared.usage.UsageFault.TheVariants.{Help, Usage, Memory}
use Rattle.mq_acl_args.specs.CommandLine.{Asked, Compare, Why, Lint, Reach, ReachAny, ReachAll}
use Rattle.mq_acl_args.specs.CommandLine.{Through, Who, Test, WhyEach}
use Rattle.mq_acl_args.specs.CommandLine.{ReadsInputOnce}
use Rattle.mq_ask_compare.specs.Compare.{IsCompared}
use Rattle.mq_ask_why.specs.Answers.{AreAnswered}
use Rattle.mq_ask_why.specs.Why.{IsExplained}
use Rattle.mq_ask_reach.specs.Reach.{IsReached}
use Rattle.mq_ask_who.specs.ReachAny.{IsReachedByAny}
use Rattle.mq_ask_reach.specs.Script.{AreShown}
use Rattle.mq_ask.specs.Statuses.{outcome_status}
use Rattle.mq_ask_who.specs.Who.{IsWho}
use Rattle.mq_ask.specs.declared.outcome.Outcome.{Outcome}
use Rattle.mqroute_acl.specs.Files.{IsTextOf}
use Rattle.mqroute_acl.specs.Lint.{AreLinted, AreTaken, SomeIsRefused}
use Rattle.mq_ask_plan.specs.Plan.{IsComparedThrough}
use Rattle.mqroute_acl.specs.Test.{IsTested}

-- the outcome is right for texts that the files may have, where the input holds this
abbrev pub IsAnswer : Rules → (input : Option (List ℕ)) → Asked → Outcome → Type 0
IsAnswer rules input (Compare old new only script) outcome = (old_text new_text : List ℕ)
    × IsTextOf input old old_text × IsTextOf input new new_text
    × IsCompared rules only old_text new_text outcome
IsAnswer rules input (Through old new plan only) outcome =
    (old_text new_text plan_text : List ℕ) × IsTextOf input old old_text
    × IsTextOf input new new_text × IsTextOf input plan plan_text
    × IsComparedThrough rules only old_text new_text plan_text outcome
IsAnswer rules input (Why file client topic may) outcome = (text : List ℕ)
    × IsTextOf input file text
    × IsExplained rules may text client.id client.user topic outcome
IsAnswer rules input (WhyEach file questions) outcome = (text lines : List ℕ)
    × IsTextOf input file text × IsTextOf input questions lines
    × AreAnswered rules text lines outcome
IsAnswer rules input (Lint files) outcome = AreLinted rules input files outcome
    × AreTaken input files
IsAnswer rules input (Reach file client filter) outcome = (text : List ℕ)
    × IsTextOf input file text × IsReached rules text client.id client.user filter outcome
IsAnswer rules input (ReachAny file user wanted) outcome = (text : List ℕ)
    × IsTextOf input file text × IsReachedByAny rules text user wanted outcome
IsAnswer rules input (ReachAll file script) outcome = (text lines : List ℕ)
    × IsTextOf input file text × IsTextOf input script lines × AreShown rules text lines outcome
IsAnswer rules input (Who file wanted access only script) outcome = (text : List ℕ)
    × IsTextOf input file text × IsWho rules text wanted access only outcome
IsAnswer rules input (Test expected lists junit) outcome = (text : List ℕ)
    × IsTextOf input expected text × IsTested rules input text lists outcome

-- what is asked can be asked, and is answered with this status
abbrev pub IsAnswered : Rules → (input : Option (List ℕ)) → Option Asked → ℕ → Type 0
IsAnswered rules input asked status =
    (question : Asked) × (outcome : Outcome) × (asked ≡ Some question) × ReadsInputOnce question
    × IsAnswer rules input question outcome × (status ≡ outcome_status outcome)

-- nothing was written; or it is asked of the lines of lists of which mosquitto doesn't take one
abbrev pub IsUnread : (input : Option (List ℕ)) → Asked → (same : Type 0) → Type 0
IsUnread input (Lint files) same = same ⊎ SomeIsRefused input files
IsUnread input question same = same

-- nothing was written of a question; and where none is asked neither
abbrev pub IsUnreadBy : (input : Option (List ℕ)) → Option Asked → (same : Type 0) → Type 0
IsUnreadBy input None same = same
IsUnreadBy input (Some question) same = IsUnread input question same

-- how a fault of the words is shown: of help the status is 0, and all of the text is written, or 3 where it can't be
abbrev pub PrintsUsage : UsageFault → ℕ → (before after : Option (List ℕ)) → Type 0
PrintsUsage (Help text) status before after =
    ((status ≡ 0) × Appends before after (string_bytes text)) ⊎ (status ≡ 3)
PrintsUsage (Usage text) status before after = (status ≡ 2) × (after ≡ before)
PrintsUsage Memory status before after = (status ≡ 3) × (after ≡ before)
