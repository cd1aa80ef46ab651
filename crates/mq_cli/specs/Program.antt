-- What the program does.
use Rattle.std.specs.Prelude.{◌≡◌, ◌⊎◌, ℕ, ◌==◌, List, [], ◌++◌, if◌then◌else◌, Option, Some, None}
use Rattle.std.specs.Prelude.{Ok, unwrap_or, codes, string_bytes, ⊤}
use Rattle.std.specs.Io.KnownBytes.{Appends}
use Rattle.std.specs.Str.{bytes_eq}
use Rattle.mq_acl.specs.AccessLists.{AccessList}
use Rattle.mq_acl.specs.declared.rules.Rules.{Rules}
use Rattle.mq_world.specs.World.{World, Limits, default_limits, fresh_world, ruled, within}
use Rattle.mq_cli.specs.CommandLine.{number_given}
use Rattle.mq_run.specs.declared.outcome.Summary.{Summary}
use Rattle.mq_run.specs.Output.{refused_from, output, Summarizes}
use Rattle.mq_jsonl.specs.Lines.{all_lines}
use Rattle.mq_cli.specs.AclFile.{IsAnswerTo}
use Rattle.mq_run.specs.Ending.{AppendsSome}
use Rattle.mq_args.specs.declared.usage.UsageFault.{UsageFault}
use Rattle.mq_args.specs.declared.usage.UsageFault.TheVariants.{Help, Usage, Memory}
use Rattle.mq_cli.specs.declared.failure.Failure.{Failure}
use Rattle.mq_cli.specs.declared.failure.Failure.TheVariants as failure

-- the file of the script; without one, or as `-`, the script is read from the input
abbrev pub script_file : Option (List ℕ) → Option (List ℕ)
script_file None = None
script_file (Some file) = if bytes_eq file (codes "-") then None else Some file

-- the status where the program fails
abbrev pub failure_status : Failure → ℕ
failure_status failure.Read = 3
failure_status failure.Write = 3
failure_status failure.TooMuch = 3
failure_status failure.Memory = 3
failure_status (failure.AclRead file) = 2
failure_status (failure.AclTooLong file) = 2
failure_status (failure.AclUtf8 file) = 2
failure_status (failure.AclLine file line kind) = 2
failure_status (failure.Script file) = 2

-- the limits of two options
abbrev pub limits_by : (retained queued : Option ℕ) → Limits
limits_by retained queued =
    record { retained = retained; queued = unwrap_or queued default_limits.queued }

-- the limits in the words
abbrev pub limits_given : List (List ℕ) → Limits
limits_given words = limits_by (number_given (codes "max-retained") words)
    (number_given (codes "max-queued") words)

-- the access list that a run begins with: where a file of one is named, that of some text without a fault, by these rules
abbrev pub BeginsWith : Rules → (acl_file : Option (List ℕ)) → Option AccessList → Type 0
BeginsWith rules None access = access ≡ None
BeginsWith rules (Some file) access =
    (text : List ℕ) × (list : AccessList) × IsAnswerTo rules text (Ok list) × (access ≡ Some list)

-- the world that a run begins in, where the rules are those of commands too
abbrev pub BeginsIn : Rules → (acl_file : Option (List ℕ)) → Limits → World → Type 0
BeginsIn rules acl_file limits w = (access : Option AccessList) × BeginsWith rules acl_file access
    × (w ≡ ruled rules (within limits (fresh_world access)))

-- the script: where no file is named, all that the input shows
abbrev pub IsScript : (file to_come : Option (List ℕ)) → List ℕ → Type 0
IsScript None None script = ⊤
IsScript None (Some bytes) script = script ≡ bytes
IsScript (Some file) to_come script = ⊤

-- all of a script was answered from a world
pub record AnswersScript (w : World) (script before : List ℕ) (after : Option (List ℕ))
    (summary : Summary) : Type 0 where
  pub written : after ≡ Some (before ++ output w script)
  pub counts : Summarizes w script summary

-- and the status says whether a line was refused
pub record AnswersAll (w : World) (script before : List ℕ) (after : Option (List ℕ)) (status : ℕ) :
    Type 0 where
  pub written : after ≡ Some (before ++ output w script)
  pub ended : status ≡ (if refused_from w [] (all_lines script) == 0 then 0 else 1)

-- a front of what some script writes was written; where no file is named, that script is all that the input shows
abbrev pub WritesFront : World → (file to_come : Option (List ℕ)) → (before after : Option (List ℕ))
    → Type 0
WritesFront w file to_come before after =
    (script : List ℕ) × IsScript file to_come script × AppendsSome before after (output w script)

-- what is written where the words give no options: help, all of it where the status is 0, and else nothing
abbrev pub PrintsUsage : UsageFault → (status : ℕ) → (before after flushed : Option (List ℕ))
    → Type 0
PrintsUsage (Help text) status before after flushed =
    ((status ≡ 0) × Appends before after (string_bytes text) × (flushed ≡ after))
    ⊎ ((status ≡ 3) × AppendsSome before after (string_bytes text))
PrintsUsage (Usage text) status before after flushed = (status ≡ 2) × (after ≡ before)
PrintsUsage Memory status before after flushed = (status ≡ 3) × (after ≡ before)
