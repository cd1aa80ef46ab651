-- What is odd about the lines of an access list.
use Rattle.std.specs.Prelude.{ℕ, Bool, true, false, List, [], ◌∷◌, ◌++◌, ◌||◌, ◌&&◌, not, codes}
use Rattle.std.specs.Prelude.{Option, Some, None, Result, Ok, Err}
use Rattle.std.specs.List.{flat_map, filter_map, enumerate_from}
use Rattle.mq_acl.specs.Lines.{Entry, Pattern, lines}
use Rattle.mq_acl.specs.RowsByOwner.{is_everyones}
use Rattle.mq_acl.specs.Rows.{AclRow, entry_by}
use Rattle.mq_acl.specs.Words.{occurs_in}
use Rattle.mq_acl.specs.declared.fault.AclKind.{AclKind}
use Rattle.mq_acl.specs.declared.fault.AclFault.{AclFault}
use Rattle.mq_acl.specs.declared.rules.Rules.{Rules}
use Rattle.mq_acl.specs.declared.rules.Rules.TheVariants.{Own, Mosquitto}
use Rattle.mq_lint.specs.Blanks.{is_indented_comment, is_tabbed}
use Rattle.mq_lint.specs.Hidden.{is_obscure}
use Rattle.mq_lint.specs.declared.remark.Remark.{Remark}
use Rattle.mq_lint.specs.declared.remark.RemarkKind.{RemarkKind}
use Rattle.mq_lint.specs.declared.remark.RemarkKind.TheVariants.{Fault, NoMark, IndentedComment}
use Rattle.mq_lint.specs.declared.remark.RemarkKind.TheVariants.{Hidden, Tab}

-- `%c` or `%u` stands in the topic
abbrev pub has_mark : List ℕ → Bool
has_mark topic = occurs_in (codes "%c") topic || occurs_in (codes "%u") topic

abbrev pub kind_if : Bool → RemarkKind → Option RemarkKind
kind_if true kind = Some kind
kind_if false kind = None

-- what is odd about what a line says: a fault, or a `pattern` line without a mark
abbrev pub entry_kind : Result Entry AclKind → Option RemarkKind
entry_kind (Err fault) = Some (Fault fault)
entry_kind (Ok (Pattern access topic)) = kind_if (not (has_mark topic)) NoMark
entry_kind (Ok entry) = None

abbrev pub remark_on : ℕ → Option RemarkKind → List Remark
remark_on number None = []
remark_on number (Some kind) = record { line = number; kind = kind } ∷ []

-- what mosquitto reads otherwise is odd by our own rules alone
abbrev pub is_odd_by : Rules → Bool → Bool
is_odd_by Own odd = odd
is_odd_by Mosquitto odd = false

-- what is odd about a line as a line of a list
abbrev pub odd_remarks : Rules → ℕ → List ℕ → List Remark
odd_remarks rules number line =
    remark_on number (entry_kind (entry_by rules line))
    ++ remark_on number (kind_if (is_odd_by rules (is_indented_comment line)) IndentedComment)
    ++ remark_on number (kind_if (is_odd_by rules (is_tabbed line)) Tab)

-- all that is odd about it
abbrev pub line_remarks : Rules → ℕ → List ℕ → List Remark
line_remarks rules number line =
    odd_remarks rules number line ++ remark_on number (kind_if (is_obscure line) Hidden)

-- all that is odd about the lines, which are counted from this number
abbrev pub remarks_from : Rules → ℕ → List (List ℕ) → List Remark
remarks_from rules number all = flat_map (λ numbered. line_remarks rules numbered.0 numbered.1)
    (enumerate_from number all)

-- all that is odd about the lines of the text
abbrev pub remarks_of : Rules → List ℕ → List Remark
remarks_of rules text = remarks_from rules 1 (lines text)

abbrev pub fault_by : ℕ → RemarkKind → Option AclFault
fault_by line (Fault kind) = Some (record { line = line; kind = kind })
fault_by line kind = None

-- the faults among the remarks
abbrev pub faults_shown : List Remark → List AclFault
faults_shown remarks = filter_map (λ remark. fault_by remark.line remark.kind) remarks

-- the row is of a `pattern` line without a mark
abbrev pub is_unmarked : AclRow → Bool
is_unmarked row = is_everyones row.who && not (has_mark row.filter)
