-- Why nothing is answered about a list.
use Rattle.std.specs.Prelude.{Contains, Err, List, Some, ℕ, ⊤, ◌≡◌}
use Rattle.mq_acl.specs.Rows.{rows_by}
use Rattle.mq_acl.specs.Views.{line_views}
use Rattle.mq_acl.specs.declared.fault.AclFault.{AclFault}
use Rattle.mq_acl.specs.declared.row.Row.{Row}
use Rattle.mq_acl.specs.declared.rules.Rules.{Rules}
use Rattle.mq_acl.specs.declared.rules.Rules.TheVariants.{Mosquitto}
use Rattle.mq_ask.specs.Lists.{AreRows}
use Rattle.mq_ask.specs.declared.failure.Failure.{Failure}
use Rattle.mq_ask.specs.declared.failure.Failure.TheVariants as failure
use Rattle.mq_print.specs.declared.list.ListText.{ListText}
use Rattle.mq_witness.specs.Limits.{long_line, marked_line}

-- by these rules it is the first faulty line of the text
abbrev pub IsFaultyLine : Rules → (text : List ℕ) → ℕ → Type 0
IsFaultyLine rules text line =
    (fault : AclFault) × (rows_by rules text ≡ Err fault) × (fault.line ≡ line)

-- it is the line of the first row with a level, or a user name, of more than 300 bytes
abbrev pub IsLongLine : Rules → (text : List ℕ) → ℕ → Type 0
IsLongLine rules text line =
    (rows : List Row) × AreRows rules text rows × (long_line rows ≡ Some line)

-- it is the line of the first row with a mark that is a part of a level, which these rules allow
abbrev pub IsMarkedLine : Rules → (text : List ℕ) → ℕ → Type 0
IsMarkedLine rules text line =
    (rows : List Row) × AreRows rules text rows × (marked_line rules rows ≡ Some line)

-- what is shown of the list is so
abbrev pub IsListFailure : Rules → ListText → Failure → Type 0
IsListFailure rules list (failure.Line file line words) =
    (file.now ≡ list.file.now) × IsFaultyLine rules list.text.now line
IsListFailure rules list (failure.Long file line) =
    (file.now ≡ list.file.now) × IsLongLine rules list.text.now line
IsListFailure rules list (failure.Mark file line) =
    (file.now ≡ list.file.now) × IsMarkedLine rules list.text.now line
IsListFailure rules list (failure.Foreign file what) = (file.now ≡ list.file.now)
    × ((line : ℕ) × IsFaultyLine rules list.text.now line)
IsListFailure rules list failure.Memory = ⊤
IsListFailure rules list other = ⊥

-- mosquitto doesn't take the list, and this is its first line that it doesn't take
abbrev pub IsNotTaken : ListText → Failure → Type 0
IsNotTaken list (failure.NotTaken file line words) =
    (file.now ≡ list.file.now) × IsFaultyLine Mosquitto list.text.now line
IsNotTaken list (failure.Foreign file what) = (file.now ≡ list.file.now)
    × ((line : ℕ) × IsFaultyLine Mosquitto list.text.now line)
IsNotTaken list failure.Memory = ⊤
IsNotTaken list other = ⊥

-- it is the line of a row of the list in this file
abbrev pub IsRowLine : ListText → List Row → (file : List ℕ) → (line : ℕ) → Type 0
IsRowLine list rows file line = (file ≡ list.file.now) × Contains (line_views rows) line
