-- The rows of an access list, or its first faulty line (mosquitto.conf(5), `acl_file`; the faults are our own).
use Rattle.std.specs.Prelude.{ℕ, List, [], ◌∷◌, take, Option, Some, None, Result, Ok, Err}
use Rattle.std.specs.List.{enumerate_from, filter_map, last_or}
use Rattle.std.specs.Result.{result_ok}
use Rattle.mq_acl.specs.Lines.{Access, Entry, Skipped, User, Topic, Pattern, entry_of, lines}
use Rattle.mq_acl.specs.MosquittoLines.{mosquitto_entry}
use Rattle.mq_acl.specs.declared.rules.Rules.{Rules}
use Rattle.mq_acl.specs.declared.rules.Rules.TheVariants.{Own, Mosquitto}
use Rattle.mq_acl.specs.declared.fault.AclKind.{AclKind}
use Rattle.mq_acl.specs.declared.fault.AclKind.TheVariants as kinds
use Rattle.mq_acl.specs.declared.fault.AclFault.{AclFault}

-- whom a row is for: clients without a user name, those of one user name, or all
pub data Who : Type 0 where
  Anonymous : Who
  Named : (name : List ℕ) → Who
  Everyone : Who

pub record AclRow : Type 0 where
  pub who : Who
  pub access : Access
  pub filter : List ℕ

abbrev pub user_name : Entry → Option (List ℕ)
user_name (User name) = Some name
user_name entry = None

abbrev pub who_of : Option (List ℕ) → Who
who_of None = Anonymous
who_of (Some name) = Named name

-- whom a `topic` line after these entries is for: the user of the last `user` line, or clients without a user name
abbrev pub who_after : List Entry → Who
who_after before = who_of (last_or None (filter_map user_name before))

-- the row of an entry, where `topic` lines are for these clients; `pattern` lines are for all
abbrev pub row_of : Who → Entry → Option AclRow
row_of who Skipped = None
row_of who (User name) = None
row_of who (Topic access topic) = Some (record { who = who; access = access; filter = topic })
row_of who (Pattern access topic) =
    Some (record { who = Everyone; access = access; filter = topic })

-- the rows of the entries: of the entry at place i the row that it has after the first i
abbrev pub rows_in : List Entry → List AclRow
rows_in entries = filter_map (λ placed. row_of (who_after (take placed.0 entries)) placed.1)
    (enumerate_from 0 entries)

-- what a line says, as these rules read it
abbrev pub entry_by : Rules → List ℕ → Result Entry AclKind
entry_by Own line = entry_of line
entry_by Mosquitto line = mosquitto_entry line

-- what the lines without a fault say
abbrev pub entries_by : Rules → List (List ℕ) → List Entry
entries_by rules lines = filter_map (λ line. result_ok (entry_by rules line)) lines

abbrev pub entries_of : List (List ℕ) → List Entry
entries_of lines = entries_by Own lines

abbrev pub fault_at : ℕ → Result Entry AclKind → Option AclFault
fault_at number (Ok entry) = None
fault_at number (Err kind) = Some (record { line = number; kind = kind })

-- the faults of the lines, which are counted from 1
abbrev pub faults_by : Rules → List (List ℕ) → List AclFault
faults_by rules lines = filter_map (λ numbered. fault_at numbered.0 (entry_by rules numbered.1))
    (enumerate_from 1 lines)

abbrev pub faults_of : List (List ℕ) → List AclFault
faults_of lines = faults_by Own lines

abbrev pub unless_faulty : List AclFault → List AclRow → Result (List AclRow) AclFault
unless_faulty [] rows = Ok rows
unless_faulty (first ∷ later) rows = Err first

-- the rows of the text, or the first of its faults
abbrev pub rows_by : Rules → List ℕ → Result (List AclRow) AclFault
rows_by rules text =
    unless_faulty (faults_by rules (lines text)) (rows_in (entries_by rules (lines text)))

abbrev pub rows_of : List ℕ → Result (List AclRow) AclFault
rows_of text = rows_by Own text

-- the number of a line that says a row
abbrev pub row_line : ℕ → Result Entry AclKind → Option ℕ
row_line number (Ok (Topic access topic)) = Some number
row_line number (Ok (Pattern access topic)) = Some number
row_line number answer = None

-- the numbers of the lines that say the rows, in their order; lines are counted from 1
abbrev pub row_lines_by : Rules → List ℕ → List ℕ
row_lines_by rules text = filter_map (λ numbered. row_line numbered.0 (entry_by rules numbered.1))
    (enumerate_from 1 (lines text))

abbrev pub row_lines : List ℕ → List ℕ
row_lines text = row_lines_by Own text

-- there was no memory; no line of a text has this fault
abbrev pub out_of_memory : AclFault
out_of_memory = record { line = 0; kind = kinds.Memory }
