-- What the values of the code stand for.
use Rattle.std.specs.Prelude.{◌≡◌, ℕ, List, [], ◌++◌, map, Option, Some, None, Result, Ok, Err}
use Rattle.std.specs.Prelude.{string_bytes}
use denote.Ref.{Bor}
use Rattle.std.specs.Option.{option_to_list, option_copied}
use Rattle.mq_acl.specs.Lines as lines
use Rattle.mq_acl.specs.Rows.{Who, AclRow, entry_by, who_of, row_of, row_line, out_of_memory}
use Rattle.mq_acl.specs.declared.rules.Rules.{Rules}
use Rattle.mq_acl.specs.Rows as rows
use Rattle.mq_acl.specs.declared.fault.AclFault.{AclFault}
use Rattle.mq_acl.specs.declared.row.Row.{Row}
use Rattle.mq_acl.specs.declared.row.Owner.{Owner}
use Rattle.mq_acl.specs.declared.row.Owner.TheVariants as owners
use Rattle.mq_acl.specs.declared.access.Access.{Access}
use Rattle.mq_acl.specs.declared.access.Access.TheVariants as accesses
use Rattle.mq_acl.specs.declared.fault.AclKind.{AclKind}
use Rattle.mq_acl.specs.declared.fault.AclKind.TheVariants as kinds
use Rattle.mq_acl.specs.declared.entry.Entry.{Entry}
use Rattle.mq_acl.specs.declared.entry.Entry.TheVariants.{Skipped, User, Topic, Pattern}

abbrev pub access_view : Access → lines.Access
access_view accesses.Read = lines.Read
access_view accesses.Write = lines.Write
access_view accesses.ReadWrite = lines.ReadWrite
access_view accesses.Deny = lines.Deny

abbrev pub access_topic_view : Access × Bor (List ℕ) → lines.Access × List ℕ
access_topic_view parts = (access_view parts.0, parts.1.now)

abbrev pub entry_view : Entry → lines.Entry
entry_view Skipped = lines.Skipped
entry_view (User name) = lines.User name.now
entry_view (Topic access filter) = lines.Topic (access_view access) filter
entry_view (Pattern access filter) = lines.Pattern (access_view access) filter

abbrev pub owner_view : Owner → Who
owner_view owners.Anonymous = rows.Anonymous
owner_view (owners.Named name) = rows.Named (string_bytes name)
owner_view owners.Everyone = rows.Everyone

abbrev pub row_view : Row → AclRow
row_view row = record {
  who = owner_view row.owner;
  access = access_view row.access;
  filter =
      row.filter;
}

abbrev pub row_who : Row → Who
row_who row = owner_view row.owner

abbrev pub row_views : List Row → List AclRow
row_views all = map row_view all

-- the numbers of the lines of the rows
abbrev pub line_views : List Row → List ℕ
line_views all = map (λ row. row.line) all

-- whom `topic` lines of this user are for, or without one
abbrev pub user_who : Option (Bor (List ℕ)) → Who
user_who user = who_of (option_copied user)

-- whom `topic` lines after this entry are for
abbrev pub who_then : Who → lines.Entry → Who
who_then who (lines.User name) = rows.Named name
who_then who entry = who

-- the lines of what is left of a text, if anything is
abbrev pub lines_left : Option (Bor (List ℕ)) → List (List ℕ)
lines_left None = []
lines_left (Some rest) = lines.lines rest.now

-- the fault that is shown of a line; lack of memory has no line
abbrev pub fault_of : ℕ → AclKind → AclFault
fault_of n kinds.Memory = out_of_memory
fault_of n kind = record { line = n; kind = kind }

-- what a step says of a line where it may want memory
abbrev pub Fails : AclKind → Result lines.Entry AclKind → Type 0
Fails kinds.Memory answer = Unit {0}
Fails kind answer = answer ≡ Err kind

abbrev pub Answers : Result Entry AclKind → Result lines.Entry AclKind → Type 0
Answers (Ok entry) answer = answer ≡ Ok (entry_view entry)
Answers (Err kind) answer = Fails kind answer

-- the line with this number has no fault; its row is added, and later `topic` lines are for `next`
pub record IsAdded (rules : Rules) (line : List ℕ) (number : ℕ) (who next : Who) (old : List AclRow)
    (old_lines : List ℕ) (new : List AclRow) (new_lines : List ℕ) : Type 0 where
  pub entry : lines.Entry
  pub says : entry_by rules line ≡ Ok entry
  pub added : new ≡ old ++ option_to_list (row_of who entry)
  pub numbered : new_lines ≡ old_lines ++ option_to_list (row_line number (Ok entry))
  pub user : next ≡ who_then who entry
